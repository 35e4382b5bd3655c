use Rattle.std.proofs.Common.{◌≤◌, drop, length}
use Rattle.tuple_index.specs.Counts.{IsRow}
use Rattle.tuple_index.proofs.count.sum_of_products.Given as goal

abbrev pub decreases-loop-left : goal.decreases-loop-left
decreases-loop-left l = l.left

abbrev pub invariant-loop-left : goal.invariant-loop-left
invariant-loop-left l = (l.left ≤ length l.counts) × IsRow l.k (drop l.left l.counts) l.row.items
