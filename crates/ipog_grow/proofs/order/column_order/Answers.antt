use Rattle.std.proofs.Common.{◌∙◌, map, length, ap, arith}
use Rattle.std.specs.Prelude.{slice_index}
use Rattle.std.specs.List.{range_with_len}
use Rattle.std.proofs.lemmas.List.FromFn.{length-map-range_with_len}
use Rattle.cov_model.specs.believed.Preference.{by_falling_weight}
use Rattle.cov_model.specs.believed.Slices.{positive_values}
use Rattle.tuple_index.specs.Places.{values_in}
use Rattle.tuple_index.specs.Plan.{PlanView, plan_of}
use Rattle.ipog_grow.proofs.Ranking.{ordered}
use Rattle.ipog_grow.proofs.order.column_order.Goals as goal

pub value_counts-requires-clause-exist : goal.value_counts-requires-clause-exist
value_counts-requires-clause-exist c =
    let long = length-map-range_with_len (positive_values c.args.model.now) 0 (length c.args.model.now.params) in
    let positives = ap (λ (plan : PlanView). length plan.positives) c.requires.plan in
    omega (arith, long, positives, c.len.ensures, ap length c.params.ensures.value)

pub returns-clause-value : goal.returns-clause-value
returns-clause-value c =
    let many = c.len.ensures ∙ ap length c.params.ensures.value in
    let counts = c.in_ok-counts.ensures ∙ ap (λ (plan : PlanView). map (λ p. length (values_in plan c.args.slice p)) (range_with_len 0 c.len.result))
    c.requires.plan
    ∙ ap (λ n. map (λ p. length (values_in (plan_of c.args.model.now) c.args.slice p)) (range_with_len 0 n)) many in
    ordered c.args.model.now c.args.slice c.in_ok-counts.counts.items c.sort_by_count.new.order.items c.requires.slice counts
    (c.in_ok-sort_by_count.ensures.sorted ∙ ap (λ list. by_falling_weight (λ p. slice_index list p) c.in_ok-order.order.items) c.deref.ensures.value
    ∙ ap (by_falling_weight (λ p. slice_index c.in_ok-counts.counts.items p)) c.in_ok-order.ensures)
