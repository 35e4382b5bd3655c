use Rattle.std.proofs.Common.{◌≡◌, ◌∙◌, ◌+◌, ◌++◌, ◌∷◌, ◌<◌, [], add-one, ap, arith, length, refl, subst, sym}
use Rattle.std.proofs.lemmas.Grind.{common_steps}
use Rattle.uncovered_table.specs.Masks.{AreBegins, begin_at}
use Rattle.uncovered_table.specs.Pairs.{digit_count}
use Rattle.uncovered_table.proofs.PartLemmas.{own_few}
use Rattle.uncovered_table.proofs.PartnerLemmas.{begins-more, begins-start}
use Rattle.uncovered_table.proofs.sets.SliceSets.begins.Goals as goal

pub loop-p-init : goal.loop-p-init
loop-p-init c =
    let v = c.args.self.now in
    let pushed : c.push.new.self.items ≡ 0 ∷ [] = grind (arith, common_steps) in
    record { are = subst (AreBegins (digit_count v.model v.slice) 0) (sym pushed) (begins-start (digit_count v.model v.slice)); last = refl; few = omega arith }

pub overflow_add-begin : goal.overflow_add-begin
overflow_add-begin c =
    let v = c.args.self.now in
    let inside : c.loop-p.p < length v.model.params = omega (arith, c.loop-p-test.true, c.param_count-count.ensures, ap (λ w. length w.model.params) c.self.view_is) in
    let here = c.value_count-begin.ensures ∙ ap (λ w. digit_count w.model w.slice c.loop-p.p) c.self.view_is in
    let few = own_few v.model v.slice c.loop-p.p c.assert_invariant.ensures.sound c.assert_invariant.ensures.own inside in
    omega (arith, few, here, c.loop-p.invariant.few, c.assert_invariant.ensures.sound.few, inside)

pub loop-p-preserved : goal.loop-p-preserved
loop-p-preserved c =
    let v = c.args.self.now in
    let count = digit_count v.model v.slice in
    let inside : c.loop-p.p < length v.model.params = omega (arith, c.loop-p-test.true, c.param_count-count.ensures, ap (λ w. length w.model.params) c.self.view_is) in
    let here = c.value_count-begin.ensures ∙ ap (λ w. digit_count w.model w.slice c.loop-p.p) c.self.view_is in
    let few = own_few v.model v.slice c.loop-p.p c.assert_invariant.ensures.sound c.assert_invariant.ensures.own inside in
    let next : c.loop-p.begin + c.value_count-begin.result ≡ begin_at count c.loop-p.p + count c.loop-p.p = omega (arith, c.loop-p.invariant.last, here) in
    let pushed : c.push-in-loop-p.new.self.items ≡ c.loop-p.begins.items ++ (c.loop-p.begin + c.value_count-begin.result) ∷ [] = grind (arith, common_steps) in
    record {
      are = begins-more count c.loop-p.p (c.loop-p.begin + c.value_count-begin.result) c.loop-p.begins.items c.push-in-loop-p.new.self.items c.loop-p.invariant.are next pushed;
      last = next ∙ sym (ap (begin_at count) (add-one c.loop-p.p));
      few = omega (arith, few, here, c.loop-p.invariant.few);
    }

pub returns : goal.returns
returns c =
    let v = c.args.self.now in
    let all : c.loop-p.p ≡ length v.model.params = omega (arith, c.loop-p-test.false, c.param_count-count.ensures, ap (λ w. length w.model.params) c.self.view_is, c.loop-p.auto.p-end) in
    subst (λ n. AreBegins (digit_count v.model v.slice) n c.loop-p.begins.items) all c.loop-p.invariant.are
