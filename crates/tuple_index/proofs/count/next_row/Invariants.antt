use Rattle.std.proofs.Common.{◌≡◌, map}
use Rattle.std.specs.List.{range_with_len}
use Rattle.tuple_index.specs.Counts.{next_entry}
use Rattle.tuple_index.proofs.count.next_row.Given as goal

abbrev pub invariant-loop-j : goal.invariant-loop-j
invariant-loop-j l = l.next.items ≡ map (next_entry l.count l.row) (range_with_len 0 l.j)
