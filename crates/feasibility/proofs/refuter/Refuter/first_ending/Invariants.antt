use Rattle.std.proofs.Common.{◌≡◌, length}
use Rattle.feasibility.proofs.Citing.{LeastBelow}
use Rattle.feasibility.proofs.refuter.Refuter.first_ending.Given as goal

-- the least of the omissions whose tuples end with an earlier parameter
abbrev pub invariant-loop-p : goal.invariant-loop-p
invariant-loop-p l = record {
  count : l.count ≡ length l.cells;
  so_far : LeastBelow l.self l.omissions.omissions l.cells l.p l.least;
}
