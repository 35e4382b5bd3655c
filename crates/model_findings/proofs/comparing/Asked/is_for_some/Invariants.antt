use Rattle.std.proofs.Common.{◌≡◌, ◌-◌, ◌∷◌, [], length}
use Rattle.std.specs.List.{list_any, range_with_len}
use Rattle.cov_model.specs.believed.Rows.{with_value}
use Rattle.cov_model.specs.believed.Sound.{param_at}
use Rattle.model_lint.specs.believed.Tests.{no_values}
use Rattle.model_findings.specs.believed.Comparisons.{is_for_some, is_so}
use Rattle.model_findings.proofs.comparing.Asked.is_for_some.Given as goal

-- the answer is that of the values from here on
abbrev pub invariant-loop-v : goal.invariant-loop-v
invariant-loop-v l =
    (l.count ≡ length (param_at l.self.model.now.params l.p).values) × (length l.room ≡ length l.self.model.now.params)
    × (is_for_some l.self.model.now (l.p ∷ []) (is_so l.self.model.now l.self.term.now l.self.truth) (no_values l.self.model.now)
    ≡ list_any (λ v. is_so l.self.model.now l.self.term.now l.self.truth (with_value (no_values l.self.model.now) l.p v)) (range_with_len l.v (l.count - l.v)))
