use Rattle.std.proofs.Common.{◌≡◌, drop, length}
use Rattle.cov_model.specs.believed.Tuples.{cells_of}
use Rattle.cov_model.proofs.cells.Cells.copy_tuple.Given as goal

-- the cells are those of the pairs from this one on
abbrev pub invariant-loop-i : goal.invariant-loop-i
invariant-loop-i l = l.self ≡ cells_of (length l.initial.self) (drop l.i l.pairs)
