use Rattle.std.proofs.Common.{ℕ, ◌<◌, None, get_or}
use Rattle.test_models.specs.Rows.{IsPositiveCell}
use Rattle.test_models.proofs.rows.is_positive_row.Given as goal

abbrev pub invariant-loop-p : goal.invariant-loop-p
invariant-loop-p l = (q : ℕ) → q < l.p → IsPositiveCell l.model q (get_or l.row q None)
