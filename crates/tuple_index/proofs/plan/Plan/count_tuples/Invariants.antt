use Rattle.std.proofs.Common.{◌≡◌, ◌≤◌, ◌+◌, ◌-◌, ◌^◌, drop, sum_by}
use Rattle.tuple_index.specs.Places.{negative_ways, tuple_count}
use Rattle.tuple_index.specs.believed.PlanFault.{saturated}
use Rattle.tuple_index.proofs.plan.Plan.count_tuples.Given as goal

abbrev pub invariant-loop-p : goal.invariant-loop-p
invariant-loop-p l =
    (l.count ≤ 2 ^ 64 - 1) × (saturated (l.count + sum_by (negative_ways l.self l.members) (drop l.p-index l.members)) ≡ saturated (tuple_count l.self l.members))
