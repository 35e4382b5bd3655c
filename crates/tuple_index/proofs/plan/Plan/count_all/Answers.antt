use Rattle.std.proofs.Common.{arith, ap, sym, subst, length, All, ◌<◌, [], ◌∙◌}
use Rattle.tuple_index.specs.Places.{tuple_count}
use Rattle.tuple_index.specs.believed.PlanFault.{saturated}
use Rattle.tuple_index.proofs.LoopLemmas.{exist_at, sum_step, sum_end}
use Rattle.tuple_index.proofs.plan.Plan.count_all.Goals as goal

pub count_tuples-requires : goal.count_tuples-requires
count_tuples-requires c =
    let within : c.loop-i.i < length c.args.sets.now = omega (arith, c.loop-i-test.true, c.loop-i.auto.i-end, c.len-i-end.ensures) in
    let e = length c.args.self.now.positives in
    subst (All (λ q. q < e)) (sym c.list.ensures) (exist_at e c.args.sets.now c.loop-i.i within c.requires)

pub loop-i-preserved : goal.loop-i-preserved
loop-i-preserved c =
    let within : c.loop-i.i < length c.args.sets.now = omega (arith, c.loop-i-test.true, c.loop-i.auto.i-end, c.len-i-end.ensures) in (
      omega (arith, c.saturating_add-count.ensures),
      sum_step (tuple_count c.args.self.now) c.args.sets.now [] c.loop-i.i c.loop-i.count c.count_tuples.result c.saturating_add-count.result _ within
          (c.count_tuples.ensures ∙ ap (λ set. saturated (tuple_count c.args.self.now set)) c.list.ensures) c.saturating_add-count.ensures c.loop-i.invariant.1,
    )

pub returns : goal.returns
returns c =
    sum_end (tuple_count c.args.self.now) c.args.sets.now c.loop-i.i c.loop-i.count _ (omega (arith, c.loop-i-test.false, c.len-i-end.ensures))
    c.loop-i.invariant.0 c.loop-i.invariant.1
