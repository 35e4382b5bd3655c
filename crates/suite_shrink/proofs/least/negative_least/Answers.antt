use Rattle.std.proofs.Common.{arith}
use Rattle.suite_shrink.proofs.LeastLemmas.{value_more}
use Rattle.suite_shrink.proofs.least.negative_least.Goals as goal

pub loop-v-preserved : goal.loop-v-preserved
loop-v-preserved c = record {
  few = omega (arith, c.loop-v.invariant.few, c.value_least.ensures.few);
  count = λ rows are.
      omega (arith, c.loop-v.invariant.count rows are, c.value_least.ensures.count rows are, value_more c.args.model.now rows c.args.p c.loop-v.v);
}
