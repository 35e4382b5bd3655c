use Rattle.std.proofs.Common.{◌≡◌, ◌<◌, ℕ, true, None, get_or, length}
use Rattle.model_lint.specs.Seeking.{is_cell_of}
use Rattle.model_lint.proofs.seeking.is_of_slice.Given as goal

-- the cells before this one are of the slice
abbrev pub invariant-loop-p : goal.invariant-loop-p
invariant-loop-p l = (l.count ≡ length l.cells) × ((q : ℕ) → q < l.p → is_cell_of l.model l.slice q (get_or l.cells q None) ≡ true)
