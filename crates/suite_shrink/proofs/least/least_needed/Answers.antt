use Rattle.std.proofs.Common.{arith}
use Rattle.suite_shrink.proofs.LeastLemmas.{param_more}
use Rattle.suite_shrink.proofs.least.least_needed.Goals as goal

pub loop-p-preserved : goal.loop-p-preserved
loop-p-preserved c = record {
  few = omega (arith, c.loop-p.invariant.few, c.negative_least-least.ensures.few);
  count = λ rows are.
      omega (arith, c.loop-p.invariant.count rows are, c.negative_least-least.ensures.count rows are, param_more c.args.model.now rows c.loop-p.p);
}
