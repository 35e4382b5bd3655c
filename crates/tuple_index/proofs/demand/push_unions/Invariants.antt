use Rattle.std.proofs.Common.{◌≡◌, ◌++◌, [], drop, map, get_or}
use Rattle.std.specs.List.{flat_map}
use Rattle.definitions.specs.believed.Demand.{rising, unions}
use Rattle.tuple_index.proofs.demand.push_unions.Given as goal

abbrev pub invariant-loop-pick : goal.invariant-loop-pick
invariant-loop-pick l =
    l.sets ++ flat_map (λ pick. map (rising l.model) (unions (map (λ u. get_or l.units u []) pick))) (drop l.pick-index l.pick-items)
    ≡ l.initial.sets ++ flat_map (λ pick. map (rising l.model) (unions (map (λ u. get_or l.units u []) pick))) l.pick-items
