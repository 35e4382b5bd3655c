use Rattle.std.proofs.Common.{◌≡◌, map, take}
use Rattle.tuple_index.specs.Places.{tuple_count}
use Rattle.tuple_index.proofs.plan.Plan.sizes_of.Given as goal

abbrev pub invariant-loop-i : goal.invariant-loop-i
invariant-loop-i l = l.sizes.items ≡ map (tuple_count l.self) (take l.i l.sets)
