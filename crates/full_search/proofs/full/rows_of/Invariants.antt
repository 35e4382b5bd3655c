use Rattle.std.proofs.Common.{◌≡◌, ◌-◌, ◌≤◌, length, replicate, None}
use Rattle.full_search.proofs.full.rows_of.Given as goal

abbrev pub invariant-loop-alloc : goal.invariant-loop-alloc
invariant-loop-alloc l = (l.list.items ≡ replicate (length l.list.items) (replicate l.count None)) × (length l.list.items ≤ l.rows)

abbrev pub decreases-loop-alloc : goal.decreases-loop-alloc
decreases-loop-alloc l = l.rows - length l.list.items
