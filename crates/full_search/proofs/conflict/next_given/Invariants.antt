use Rattle.std.proofs.Common.{◌≡◌, ℕ, ◌<◌, ◌≤◌, false}
use Rattle.cov_model.specs.believed.Rows.{is_assigned}
use Rattle.full_search.proofs.conflict.next_given.Given as goal

abbrev pub invariant-loop-p : goal.invariant-loop-p
invariant-loop-p l = (q : ℕ) → l.from ≤ q → q < l.p → is_assigned l.cells q ≡ false
