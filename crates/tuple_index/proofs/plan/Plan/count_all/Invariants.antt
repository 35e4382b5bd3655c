use Rattle.std.proofs.Common.{◌≡◌, ◌≤◌, ◌+◌, ◌-◌, ◌^◌, drop, sum_by}
use Rattle.tuple_index.specs.Places.{tuple_count}
use Rattle.tuple_index.specs.believed.PlanFault.{saturated}
use Rattle.tuple_index.proofs.plan.Plan.count_all.Given as goal

abbrev pub invariant-loop-i : goal.invariant-loop-i
invariant-loop-i l =
    (l.count ≤ 2 ^ 64 - 1) × (saturated (l.count + sum_by (tuple_count l.self) (drop l.i l.sets)) ≡ saturated (sum_by (tuple_count l.self) l.sets))
