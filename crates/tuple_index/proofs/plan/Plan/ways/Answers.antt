use Rattle.std.proofs.Common.{arith}
use Rattle.tuple_index.specs.Places.{values_in}
use Rattle.tuple_index.proofs.LoopLemmas.{ways_step, ways_end}
use Rattle.tuple_index.proofs.plan.Plan.ways.Goals as goal

pub loop-p-preserved : goal.loop-p-preserved
loop-p-preserved c = (
  omega (arith, c.saturating_mul-count.ensures),
  ways_step (values_in c.args.self.now c.args.slice) c.args.members.now c.loop-p.p-index c.loop-p.count c.radix.result c.saturating_mul-count.result _
      c.loop-p-test.true c.radix.ensures c.saturating_mul-count.ensures c.loop-p.invariant.1,
)

pub returns : goal.returns
returns c = ways_end (values_in c.args.self.now c.args.slice) c.args.members.now c.loop-p.p-index c.loop-p.count _ c.loop-p-test.false c.loop-p.invariant.0
    c.loop-p.invariant.1
