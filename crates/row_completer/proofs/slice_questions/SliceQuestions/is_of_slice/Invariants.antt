use Rattle.std.proofs.Common.{ℕ, ◌<◌}
use Rattle.row_completer.proofs.CellLemmas.{IsListedAt}
use Rattle.row_completer.proofs.slice_questions.SliceQuestions.is_of_slice.Given as goal

-- the cells before this one are listed
abbrev pub invariant-loop-p : goal.invariant-loop-p
invariant-loop-p l = (p : ℕ) → p < l.p → IsListedAt l.lists l.cells p
