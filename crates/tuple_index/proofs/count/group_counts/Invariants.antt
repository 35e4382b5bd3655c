use Rattle.std.proofs.Common.{◌≡◌, take, map}
use Rattle.tuple_index.specs.Counts.{group_ways}
use Rattle.tuple_index.specs.believed.PlanFault.{saturated}
use Rattle.tuple_index.proofs.count.group_counts.Given as goal

abbrev pub invariant-loop-group : goal.invariant-loop-group
invariant-loop-group l = l.counts.items ≡ map (λ group. saturated (group_ways group)) (take l.group-index l.groups)
