use Rattle.std.proofs.Common.{◌≡◌, ◌∙◌, ℕ, Bool, true, false, not, get_or, arith, ap}
use Rattle.std.proofs.lemmas.List.{get_or_default}
use Rattle.cov_model.specs.believed.Meaning.{no_value}
use Rattle.cov_model.specs.declared.parameter.Value.{Value}
use Rattle.shared_marks.proofs.DigitLemmas.{count_next}
use Rattle.shared_marks.proofs.digits.count_positive.Goals.{then-not-values-w, else-not-values-w}
use Rattle.shared_marks.proofs.digits.count_positive.Goals as goal

pub loop-w-preserved : goal.loop-w-preserved
loop-w-preserved c =
    let w = c.loop-w.w in
    let f : ℕ → Bool = λ w. not (get_or c.args.values.now w no_value).negative in
    let here : get_or c.args.values.now w no_value ≡ get_or c.args.values.now w c.index-values-w.result =
    get_or_default c.args.values.now w no_value _ (omega (arith, c.requires)) in
    let sign = ap (λ (v : Value). not v.negative) here in
    elim c.if-not-values-w.branch [
      | then-not-values-w t ↦
          let next = t.count-is in
          (count_next f w c.loop-w.count c.if-not-values-w.count true (sign ∙ ap not t.if-not-values-w.true) (omega (arith, next)) c.loop-w.invariant.0, omega (arith, next, c.loop-w.invariant.1))
      | else-not-values-w t ↦
          let next = t.count-is in
          (count_next f w c.loop-w.count c.if-not-values-w.count false (sign ∙ ap not t.if-not-values-w.false) (omega (arith, next)) c.loop-w.invariant.0, omega (arith, next, c.loop-w.invariant.1))
    ]
