use Rattle.std.proofs.Common.{arith}
use Rattle.tuple_index.specs.Places.{values_in}
use Rattle.tuple_index.proofs.LoopLemmas.{place_step, place_end}
use Rattle.tuple_index.proofs.plan.Plan.place.Goals as goal

pub loop-i-preserved : goal.loop-i-preserved
loop-i-preserved c = (
  omega (arith, c.saturating_add-count.ensures),
  place_step (values_in c.args.self.now c.args.slice) c.args.members.now c.args.values.now c.loop-i.i c.loop-i.count c.radix.result c.digit.result
      c.saturating_mul.result c.saturating_add-count.result _ c.loop-i-test.true (omega arith) c.radix.ensures c.digit.ensures c.saturating_mul.ensures
      c.saturating_add-count.ensures c.loop-i.invariant.1,
)

pub returns : goal.returns
returns c =
    place_end (values_in c.args.self.now c.args.slice) c.args.members.now c.args.values.now c.loop-i.i c.loop-i.count _ c.loop-i-test.false
    c.loop-i.invariant.0 c.loop-i.invariant.1
