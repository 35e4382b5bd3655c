use Rattle.std.proofs.Common.{◌≡◌, ◌++◌, ◌∷◌, ◌∙◌, ℕ, [], true, false, not, sym, ap, arith, rules, append-nil}
use Rattle.std.specs.List.{filter, range_with_len}
use Rattle.cov_model.specs.believed.Meaning.{value_at}
use Rattle.feasibility.proofs.Naming.{filter_range_more}
use Rattle.feasibility.proofs.values.positives.Goals as goal
use Rattle.feasibility.proofs.values.positives.Goals.{then-not-is_negative+in_ok-push, else-not-is_negative}

pub loop-v-preserved : goal.loop-v-preserved
loop-v-preserved c =
    let kept = λ (w : ℕ). not (value_at c.args.model.now c.args.p w).negative in (
      c.loop-v.invariant.0,
      elim c.if-not-is_negative.branch [
        | then-not-is_negative+in_ok-push w ↦
            let pushed : c.if-not-is_negative.list.items ≡ c.loop-v.list.items ++ c.loop-v.v ∷ [] = search rules in
            pushed ∙ ap (λ list. list ++ c.loop-v.v ∷ []) c.loop-v.invariant.1
            ∙ sym (filter_range_more kept c.loop-v.v true (ap not (sym c.is_negative.ensures ∙ w.if-not-is_negative.true)))
        | else-not-is_negative w ↦
            ap (λ list. list.items) w.list-is ∙ c.loop-v.invariant.1 ∙ sym (append-nil (filter kept (range_with_len 0 c.loop-v.v)))
            ∙ sym (filter_range_more kept c.loop-v.v false (ap not (sym c.is_negative.ensures ∙ w.if-not-is_negative.false)))
      ],
    )

pub returns : goal.returns
returns c =
    c.loop-v.invariant.1
    ∙ ap (λ (n : ℕ). filter (λ w. not (value_at c.args.model.now c.args.p w).negative) (range_with_len 0 n)) (omega (arith, c.loop-v.invariant.0))
