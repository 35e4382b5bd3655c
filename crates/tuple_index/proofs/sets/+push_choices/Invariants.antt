use Rattle.std.proofs.Common.{◌≡◌, ◌++◌, drop, map}
use Rattle.definitions.specs.believed.Demand.{choose, rising}
use Rattle.tuple_index.proofs.sets.+push_choices.Given as goal

abbrev pub decreases-push_choices : goal.decreases-push_choices
decreases-push_choices l = l.k

abbrev pub invariant-loop-i : goal.invariant-loop-i
invariant-loop-i l =
    (l.taken.items ≡ l.initial.taken.items) × (
    l.sets ++ map (λ rest. rising l.model (l.initial.taken.items ++ rest)) (choose l.k (drop l.i l.items))
    ≡ l.initial.sets ++ map (λ rest. rising l.model (l.initial.taken.items ++ rest)) (choose l.k l.items)
    )
