use Rattle.std.proofs.Common.{◌≡◌, ◌≤◌, ◌+◌, ◌-◌, ◌^◌, drop, sum_by}
use Rattle.tuple_index.specs.Counts.{group_ways}
use Rattle.tuple_index.specs.believed.PlanFault.{saturated}
use Rattle.tuple_index.proofs.count.count_relations.Given as goal

abbrev pub invariant-loop-relation : goal.invariant-loop-relation
invariant-loop-relation l =
    (l.count ≤ 2 ^ 64 - 1) × (saturated (l.count + sum_by group_ways (drop l.relation-index l.relations)) ≡ saturated (sum_by group_ways l.relations))
