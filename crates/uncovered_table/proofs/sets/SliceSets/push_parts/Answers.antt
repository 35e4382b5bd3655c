use Rattle.std.proofs.Common.{◌∙◌, ◌<◌, ◌*◌, ◌-◌, refl, ap, arith, length, get_or}
use Rattle.uncovered_table.specs.Digits.{own_values}
use Rattle.uncovered_table.specs.Places.{set_at}
use Rattle.uncovered_table.proofs.LineLemmas.{play_known}
use Rattle.uncovered_table.proofs.PreparedLemmas.{pushing-end, pushing-more, weighing-more, weight-most}
use Rattle.uncovered_table.proofs.sets.SliceSets.push_parts.Goals as goal

pub overflow_mul-weight : goal.overflow_mul-weight
overflow_mul-weight c =
    let v = c.args.self.now in
    let p = get_or c.members-members.result.now (c.loop-left.left - 1) 0 in
    let known = play_known v.model v.slice c.args.column c.args.set c.members-members.result.now c.assert_invariant.ensures.kept c.assert_invariant.ensures.own c.requires.set
    (c.members-members.ensures.value ∙ ap (λ w. set_at w.model c.args.set) c.self.view_is) in
    let more = weighing-more v.model v.slice c.args.column c.members-members.result.now c.loop-left.left p c.loop-left.weight c.loop-left.step
    (c.loop-left.weight * c.value_count-weight.result) c.step_at-step.result c.loop-left-test.true c.loop-left.invariant.weighing refl c.step_at-step.ensures
    (ap (λ n. c.loop-left.weight * n) (c.value_count-weight.ensures ∙ ap (λ w. length (own_values w.model w.slice p)) c.self.view_is)) in
    let most = weight-most v.model v.slice c.args.column c.members-members.result.now (c.loop-left.left - 1) (c.loop-left.weight * c.value_count-weight.result)
    c.step_at-step.result more known.some known.few in
    omega (arith, most)

pub loop-left-preserved : goal.loop-left-preserved
loop-left-preserved c =
    let v = c.args.self.now in
    let p = get_or c.members-members.result.now (c.loop-left.left - 1) 0 in
    let inside : c.loop-left.left - 1 < length c.members-members.result.now = omega (arith, c.loop-left.invariant.weighing.within, c.loop-left-test.true) in
    let exists : p < length v.model.params = (let less = c.members-members.ensures.exist (c.loop-left.left - 1) 0 inside in omega (arith, less, ap (λ w. length w.model.params) c.self.view_is)) in
    pushing-more v.model v.slice c.args.column c.members-members.result.now c.args.parts.now.items
    c.loop-left.parts.items c.push_part.new.parts.items c.loop-left.left p c.loop-left.weight c.loop-left.step
    (c.loop-left.weight * c.value_count-weight.result) c.step_at-step.result c.loop-left-test.true c.loop-left.invariant refl exists c.in_ok-push_part.ensures c.step_at-step.ensures
    (ap (λ n. c.loop-left.weight * n) (c.value_count-weight.ensures ∙ ap (λ w. length (own_values w.model w.slice p)) c.self.view_is))

pub returns-clause-step : goal.returns-clause-step
returns-clause-step c =
    let v = c.args.self.now in
    (pushing-end v.model v.slice c.args.column c.args.set c.members-members.result.now c.args.parts.now.items c.loop-left.parts.items c.loop-left.left c.loop-left.weight c.loop-left.step
    c.loop-left-test.false (c.members-members.ensures.value ∙ ap (λ w. set_at w.model c.args.set) c.self.view_is) c.members-members.ensures.few c.loop-left.invariant).0

pub returns-clause-parts : goal.returns-clause-parts
returns-clause-parts c =
    let v = c.args.self.now in
    (pushing-end v.model v.slice c.args.column c.args.set c.members-members.result.now c.args.parts.now.items c.loop-left.parts.items c.loop-left.left c.loop-left.weight c.loop-left.step
    c.loop-left-test.false (c.members-members.ensures.value ∙ ap (λ w. set_at w.model c.args.set) c.self.view_is) c.members-members.ensures.few c.loop-left.invariant).1
