use Rattle.std.proofs.Common.{◌≡◌, ◌≤◌, ◌^◌, ◌-◌, ◌*◌, ◌+◌, drop}
use Rattle.tuple_index.specs.Places.{values_in, ways, place}
use Rattle.tuple_index.specs.believed.PlanFault.{saturated}
use Rattle.tuple_index.proofs.plan.Plan.place.Given as goal

abbrev pub invariant-loop-i : goal.invariant-loop-i
invariant-loop-i l = (l.count ≤ 2 ^ 64 - 1) × (
    saturated (l.count * ways (values_in l.self l.slice) (drop l.i l.members) + place (values_in l.self l.slice) (drop l.i l.members) (drop l.i l.values))
    ≡ saturated (place (values_in l.self l.slice) l.members l.values)
    )
