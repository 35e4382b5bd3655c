use Rattle.std.proofs.Common.{◌≡◌, ◌++◌, ◌-◌, map, length}
use Rattle.std.specs.List.{filter, range_with_len}
use Rattle.definitions.specs.believed.Demand.{is_among, rising}
use Rattle.tuple_index.proofs.values.listed_params.Given as goal

abbrev pub invariant-loop-p : goal.invariant-loop-p
invariant-loop-p l =
    (l.count ≡ length l.model.params) × (l.set.items ++ map (λ p. p) (filter (is_among l.choice) (range_with_len l.p (l.count - l.p)))
    ≡ map (λ p. p) (rising l.model l.choice))
