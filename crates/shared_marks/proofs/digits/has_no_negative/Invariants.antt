use Rattle.std.proofs.Common.{◌≡◌, ℕ, ◌<◌, length}
use Rattle.cov_model.specs.believed.Slices.{positive_values}
use Rattle.cov_model.specs.believed.Sound.{param_at}
use Rattle.shared_marks.proofs.digits.has_no_negative.Given as goal

abbrev pub invariant-loop-p : goal.invariant-loop-p
invariant-loop-p l = (p : ℕ) → p < l.p → length (positive_values l.model p) ≡ length (param_at l.model.params p).values
