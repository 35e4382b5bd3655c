use Rattle.std.proofs.Common.{arith}
use Rattle.tuple_index.proofs.OrderLemmas.{in_order_itself}
use Rattle.tuple_index.proofs.order.are_in_order.Goals as goal

pub returns : goal.returns
returns c is = in_order_itself c.args.sets.now (λ k within. c.loop-i.invariant k (omega (arith, within, c.loop-i-test.false, c.len-i-end.ensures)))
