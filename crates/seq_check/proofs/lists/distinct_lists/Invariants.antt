use Rattle.std.proofs.Common.{◌≡◌}
use Rattle.seq_check.specs.believed.Orders.{distinct_lists}
use Rattle.seq_check.proofs.lists.distinct_lists.Given as goal

abbrev pub invariant-loop-turn : goal.invariant-loop-turn
invariant-loop-turn l = l.lists ≡ distinct_lists l.count l.turn
