use Rattle.std.proofs.Common.{◌≡◌, take, map}
use Rattle.definitions.specs.believed.Demand.{choose}
use Rattle.tuple_index.proofs.demand.units_of.Given as goal

abbrev pub invariant-loop-sub : goal.invariant-loop-sub
invariant-loop-sub l = l.all ≡ map (λ sub. choose sub.order sub.members) (take l.sub-index l.model.demand.subs)
