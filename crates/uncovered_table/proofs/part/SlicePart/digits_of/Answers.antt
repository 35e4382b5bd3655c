use mir.Val.{bool_byte}
use Rattle.std.proofs.Common.{◌+◌, ◌≡◌, ◌<◌, ◌≤◌, ◌∙◌, ◌++◌, ◌∷◌, [], Bool, true, false, ap, arith, length, map, refl, sym}
use Rattle.std.specs.Prelude.{if◌then◌else◌}
use Rattle.std.specs.List.{range_with_len}
use Rattle.std.proofs.lemmas.Grind.{common_steps}
use Rattle.cov_model.specs.believed.Sound.{param_at}
use Rattle.uncovered_table.specs.Digits.{digit_of, is_own}
use Rattle.uncovered_table.proofs.ChoiceLemmas.{own_passing}
use Rattle.uncovered_table.proofs.TableLemmas.{digits_more, next_more}
use Rattle.uncovered_table.proofs.part.SlicePart.digits_of.Goals as goal

as_number : (b : Bool) → bool_byte b ≡ (if b then 1 else 0)
as_number true = refl
as_number false = refl

at_most_one : (b : Bool) → (if b then 1 else 0) ≤ 1
at_most_one true = omega arith
at_most_one false = omega arith

pub loop-v-preserved : goal.loop-v-preserved
loop-v-preserved c =
    let v = c.args.self.now in
    let f = is_own v.model v.slice c.args.p in
    let n = length (param_at v.model.params c.args.p).values in
    let below : c.loop-v.v < n = omega (arith, c.loop-v-test.true, c.all_values-v-end.ensures) in
    let values = own_passing v.model v.slice c.args.p c.assert_invariant.ensures.own c.requires in
    let pushed : c.push.new.self.items ≡ c.loop-v.digits.items ++ c.digit_if.result ∷ [] = grind (arith, common_steps) in
    let longer = pushed ∙ ap (λ o. c.loop-v.digits.items ++ o ∷ []) c.digit_if.ensures in
    let one = c.from-next.ensures ∙ as_number c.has_value-own.result in
    record {
      digits = digits_more f n c.loop-v.v c.loop-v.next c.has_value-own.result c.loop-v.digits.items c.push.new.self.items below c.has_value-own.ensures
          c.loop-v.invariant.next longer
          (c.loop-v.invariant.digits ∙ ap (λ vs. map (digit_of vs) (range_with_len 0 c.loop-v.v)) values)
          ∙ ap (λ vs. map (digit_of vs) (range_with_len 0 (c.loop-v.v + 1))) (sym values);
      next = ap (λ k. c.loop-v.next + k) one ∙ next_more f c.loop-v.v c.loop-v.next c.has_value-own.result c.has_value-own.ensures c.loop-v.invariant.next;
      few = omega (arith, c.loop-v.invariant.few, one, at_most_one c.has_value-own.result);
    }
