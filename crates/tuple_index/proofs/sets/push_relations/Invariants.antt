use Rattle.std.proofs.Common.{◌≡◌, ◌++◌, drop, map}
use Rattle.std.specs.List.{flat_map}
use Rattle.definitions.specs.believed.Demand.{choose, rising}
use Rattle.tuple_index.proofs.sets.push_relations.Given as goal

abbrev pub invariant-loop-relation : goal.invariant-loop-relation
invariant-loop-relation l =
    l.sets ++ flat_map (λ relation. map (rising l.model) (choose relation.order relation.members)) (drop l.relation-index l.relations)
    ≡ l.initial.sets ++ flat_map (λ relation. map (rising l.model) (choose relation.order relation.members)) l.relations
