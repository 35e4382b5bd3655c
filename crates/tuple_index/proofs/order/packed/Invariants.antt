use Rattle.std.proofs.Common.{◌≡◌, map, take}
use Rattle.tuple_index.proofs.order.packed.Given as goal

abbrev pub invariant-loop-set : goal.invariant-loop-set
invariant-loop-set l = l.sets ≡ map (λ set. set.now) (take l.set-index l.all)
