use Rattle.std.proofs.Common.{◌≡◌, map, length}
use Rattle.std.specs.List.{range_with_len}
use Rattle.tuple_index.specs.Places.{values_in}
use Rattle.ipog_grow.proofs.order.value_counts.Given as goal

abbrev pub invariant-loop-p : goal.invariant-loop-p
invariant-loop-p l = l.counts.items ≡ map (λ p. length (values_in l.fn.plan l.fn.slice p)) (range_with_len 0 l.p)
