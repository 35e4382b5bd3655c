use Rattle.std.proofs.Common.{◌≡◌, ◌<◌, ◌∙◌, ap, arith, length, subst, sym}
use Rattle.tuple_index.specs.Places.{values_in}
use Rattle.uncovered_table.specs.Digits.{own_values}
use Rattle.uncovered_table.proofs.PartLemmas.{own_few, plan_long}
use Rattle.uncovered_table.proofs.part.SlicePart.value_count.Goals as goal

pub value_count-requires : goal.value_count-requires
value_count-requires c =
    let long = plan_long c.self.inside.of.now c.self.inside.by.now c.self.invariant.planned in
    let within = subst (λ v. c.args.p < length v.model.params) (sym c.self.view_is) c.requires in
    omega (arith, long, within)

same : (c : goal.After-value_count) → c.value_count.result ≡ length (own_values c.args.self.now.model c.args.self.now.slice c.args.p)
same c =
    c.value_count.ensures ∙ ap (λ plan. length (values_in plan c.self.inside.slice c.args.p)) c.self.invariant.planned
    ∙ ap (λ v. length (own_values v.model v.slice c.args.p)) c.self.view_is

pub overflow_cast-result : goal.overflow_cast-result
overflow_cast-result c =
    let few = own_few c.args.self.now.model c.args.self.now.slice c.args.p c.assert_invariant.ensures.sound c.assert_invariant.ensures.own c.requires in
    let is = same c in
    omega (arith, few, is)

pub returns : goal.returns
returns c = same c
