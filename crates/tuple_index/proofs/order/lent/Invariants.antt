use Rattle.std.proofs.Common.{◌≡◌, map, take}
use Rattle.tuple_index.proofs.order.lent.Given as goal

abbrev pub invariant-loop-i : goal.invariant-loop-i
invariant-loop-i l = map (λ set. set.now) l.all.items ≡ take l.i l.sets
