use Rattle.std.proofs.Common.{ℕ, ◌<◌, None, get_or, length}
use Rattle.std.specs.Prelude.{IfSome}
use Rattle.cov_model.specs.believed.Sound.{param_at}
use Rattle.marks_tests.proofs.files.is_of_model.Given as goal

abbrev pub invariant-loop-p : goal.invariant-loop-p
invariant-loop-p l = (q : ℕ) → q < l.p → IfSome (get_or l.cells q None) (λ v. v < length (param_at l.model.params q).values)
