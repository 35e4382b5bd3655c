use Rattle.std.proofs.Common.{length, [], ◌∷◌, ◌++◌, ℕ, arith, ◌≡◌, ◌∙◌, sym, ap}
use Rattle.std.proofs.lemmas.List.{map-id}
use Rattle.std.proofs.lemmas.Grind.{common_steps}
use Rattle.tuple_index.specs.Signs.{has_sign, values_of_sign}
use Rattle.tuple_index.proofs.ChoiceLemmas.{single_found, single_passed, single_end}
use Rattle.tuple_index.proofs.values.values_of.Goals.{then-is_of_sign+in_ok-push, else-is_of_sign}
use Rattle.tuple_index.proofs.values.values_of.Goals as goal

pub loop-v-preserved : goal.loop-v-preserved
loop-v-preserved c =
    let same : ℕ → ℕ = λ v. v in (
      c.loop-v.invariant.0,
      elim c.if-is_of_sign.branch [
        | then-is_of_sign+in_ok-push w ↦
            let pushed : c.if-is_of_sign.numbers.items ≡ c.loop-v.numbers.items ++ c.loop-v.v ∷ [] = grind (arith, common_steps) in
            single_found (has_sign c.args.negative c.args.values.now) same c.loop-v.v
            (length c.args.values.now) c.loop-v.numbers.items c.if-is_of_sign.numbers.items _ c.loop-v-test.true
            (sym c.is_of_sign.ensures ∙ w.if-is_of_sign.true) pushed c.loop-v.invariant.1
        | else-is_of_sign w ↦
            single_passed (has_sign c.args.negative c.args.values.now) same c.loop-v.v
            (length c.args.values.now) c.loop-v.numbers.items c.if-is_of_sign.numbers.items _ c.loop-v-test.true
            (sym c.is_of_sign.ensures ∙ w.if-is_of_sign.false) (ap (λ n. n.items) w.numbers-is) c.loop-v.invariant.1
      ],
    )

pub returns : goal.returns
returns c =
    let same : ℕ → ℕ = λ v. v in
    single_end (has_sign c.args.negative c.args.values.now) same c.loop-v.v (length c.args.values.now) c.loop-v.numbers.items _ c.loop-v-test.false
    c.loop-v.invariant.1
    ∙ map-id (values_of_sign c.args.negative c.args.values.now)
