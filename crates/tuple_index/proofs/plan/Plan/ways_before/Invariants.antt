use Rattle.std.proofs.Common.{◌≡◌, ◌≤◌, ◌^◌, ◌-◌, ◌+◌, drop}
use Rattle.tuple_index.specs.Places.{ways_before}
use Rattle.tuple_index.specs.believed.PlanFault.{saturated}
use Rattle.tuple_index.proofs.plan.Plan.ways_before.Given as goal

abbrev pub invariant-loop-p : goal.invariant-loop-p
invariant-loop-p l = (l.count ≤ 2 ^ 64 - 1) × (
    saturated (l.count + ways_before l.self l.members l.q (drop l.p-index l.members)) ≡ saturated (ways_before l.self l.members l.q l.members)
    )
