use Rattle.std.proofs.Common.{◌≡◌, ◌++◌, drop}
use Rattle.definitions.specs.believed.Demand.{choose}
use Rattle.tuple_index.proofs.choices.+ways_to_choose.Given as goal

abbrev pub decreases-ways_to_choose : goal.decreases-ways_to_choose
decreases-ways_to_choose g l = l.k

abbrev pub invariant-loop-i : goal.invariant-loop-i
invariant-loop-i g l = l.ways ++ choose l.k (drop l.i l.items) ≡ choose l.k l.items
