use Rattle.std.proofs.Common.{◌≡◌, ◌++◌, ◌-◌, map, length}
use Rattle.std.specs.List.{filter, range_with_len}
use Rattle.tuple_index.specs.Signs.{has_sign, values_of_sign}
use Rattle.tuple_index.proofs.values.values_of.Given as goal

abbrev pub invariant-loop-v : goal.invariant-loop-v
invariant-loop-v l =
    (l.count ≡ length l.values) × (l.numbers.items ++ map (λ v. v) (filter (has_sign l.negative l.values) (range_with_len l.v (l.count - l.v)))
    ≡ map (λ v. v) (values_of_sign l.negative l.values))
