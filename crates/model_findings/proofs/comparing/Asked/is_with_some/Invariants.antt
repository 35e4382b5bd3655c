use Rattle.std.proofs.Common.{◌≡◌, ◌-◌, ◌∷◌, [], length}
use Rattle.std.specs.List.{list_any, range_with_len}
use Rattle.cov_model.specs.believed.Rows.{with_value}
use Rattle.cov_model.specs.believed.Sound.{param_at}
use Rattle.model_lint.specs.believed.Tests.{no_values}
use Rattle.model_findings.specs.believed.Comparisons.{is_for_some, is_so}
use Rattle.model_findings.proofs.comparing.Asked.is_with_some.Given as goal

-- the answer is that of the values from here on
abbrev pub invariant-loop-w : goal.invariant-loop-w
invariant-loop-w l =
    (l.count ≡ length (param_at l.self.model.now.params l.q).values) × (length l.room ≡ length l.self.model.now.params)
    × (is_for_some l.self.model.now (l.q ∷ []) (is_so l.self.model.now l.self.term.now l.self.truth) (with_value (no_values l.self.model.now) l.p l.fn.v)
    ≡ list_any (λ w. is_so l.self.model.now l.self.term.now l.self.truth (with_value (with_value (no_values l.self.model.now) l.p l.fn.v) l.q w)) (range_with_len l.w (l.count - l.w)))
