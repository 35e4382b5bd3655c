use Rattle.std.proofs.Common.{arith, sum_by, ap, ◌∙◌, ◌+◌}
use Rattle.cov_model.specs.declared.slice.Slice.TheVariants.{Positive}
use Rattle.tuple_index.specs.Places.{negative_ways, ways, values_in}
use Rattle.tuple_index.specs.believed.PlanFault.{saturated}
use Rattle.tuple_index.proofs.SaturatedLemmas.{saturated-add}
use Rattle.tuple_index.proofs.LoopLemmas.{sum_step, sum_end}
use Rattle.tuple_index.proofs.plan.Plan.count_tuples.Goals as goal

pub loop-p-init : goal.loop-p-init
loop-p-init c = (
  omega (arith, c.ways-count.ensures),
  ap (λ n. saturated (n + sum_by (negative_ways c.args.self.now c.args.members.now) c.args.members.now)) c.ways-count.ensures
      ∙ saturated-add (ways (values_in c.args.self.now Positive) c.args.members.now) (sum_by (negative_ways c.args.self.now c.args.members.now) c.args.members.now),
)

pub loop-p-preserved : goal.loop-p-preserved
loop-p-preserved c = (
  omega (arith, c.saturating_add-count.ensures),
  sum_step (negative_ways c.args.self.now c.args.members.now) c.args.members.now 0 c.loop-p.p-index c.loop-p.count c.negative_ways.result
      c.saturating_add-count.result _
      c.loop-p-test.true c.negative_ways.ensures c.saturating_add-count.ensures c.loop-p.invariant.1,
)

pub returns : goal.returns
returns c =
    sum_end (negative_ways c.args.self.now c.args.members.now) c.args.members.now c.loop-p.p-index c.loop-p.count _ c.loop-p-test.false c.loop-p.invariant.0
    c.loop-p.invariant.1
