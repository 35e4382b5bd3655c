use Rattle.std.proofs.Common.{length, ap, subst, arith}
use Rattle.feasibility.specs.SafeValues.{HasSafeValue}
use Rattle.feasibility.proofs.SafeValues.{safe_more}
use Rattle.feasibility.proofs.safe_values.most_nodes.Goals as goal

pub loop-named-preserved : goal.loop-named-preserved
loop-named-preserved c =
    safe_more c.args.constrained.now c.args.values.now c.loop-named.named-index c.loop-named.most c.in_ok-most.most c.named-item.result
    c.loop-named-test.true c.named-item.is c.loop-named.invariant
    (subst (HasSafeValue c.named-item.result) c.list-list.ensures (c.has_safe_value.ensures c.if-not-has_safe_value.false))
    (omega (arith, c.in_ok-most.ensures, ap length c.list-list.ensures))
