use Rattle.std.proofs.Common.{◌≡◌, ◌≤◌, ◌^◌, ◌-◌, ◌*◌, drop}
use Rattle.tuple_index.specs.Places.{values_in, ways}
use Rattle.tuple_index.specs.believed.PlanFault.{saturated}
use Rattle.tuple_index.proofs.plan.Plan.ways.Given as goal

abbrev pub invariant-loop-p : goal.invariant-loop-p
invariant-loop-p l = (l.count ≤ 2 ^ 64 - 1) × (
    saturated (l.count * ways (values_in l.self l.slice) (drop l.p-index l.members)) ≡ saturated (ways (values_in l.self l.slice) l.members)
    )
