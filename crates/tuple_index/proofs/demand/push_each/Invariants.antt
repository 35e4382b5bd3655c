use Rattle.std.proofs.Common.{◌≡◌, ◌++◌, map, take}
use Rattle.definitions.specs.believed.Demand.{rising}
use Rattle.tuple_index.proofs.demand.push_each.Given as goal

abbrev pub invariant-loop-choice : goal.invariant-loop-choice
invariant-loop-choice l = l.sets ≡ l.initial.sets ++ map (rising l.model) (take l.choice-index l.choices)
