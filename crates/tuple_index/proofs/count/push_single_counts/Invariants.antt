use Rattle.std.proofs.Common.{◌≡◌, ◌++◌, ◌-◌, map, not, length}
use Rattle.std.specs.List.{filter, list_any, range_with_len}
use Rattle.definitions.specs.believed.Demand.{is_among, singles}
use Rattle.tuple_index.proofs.count.push_single_counts.Given as goal

abbrev pub invariant-loop-p : goal.invariant-loop-p
invariant-loop-p l =
    (l.count ≡ length l.model.params) × (
    l.into.items ++ map (λ p. 1) (filter (λ p. not (list_any (λ sub. is_among sub.members p) l.model.demand.subs)) (range_with_len l.p (l.count - l.p)))
    ≡ l.initial.into.items ++ map (λ p. 1) (singles l.model)
    )
