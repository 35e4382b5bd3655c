use Rattle.std.proofs.Common.{◌≡◌, map}
use Rattle.std.specs.List.{range_with_len}
use Rattle.suspect_tuples.specs.SetCounts.{next_count}
use Rattle.suspect_tuples.proofs.set_counts.next_counts.Given as goal

abbrev pub invariant-loop-k : goal.invariant-loop-k
invariant-loop-k l = l.next.items ≡ map (next_count l.row) (range_with_len 0 l.k)
