use Rattle.std.proofs.Common.{◌≤◌, ◌-◌}
use Rattle.suspect_tuples.specs.SetCounts.{AreCounts}
use Rattle.suspect_tuples.proofs.set_counts.count_sets.Given as goal

abbrev pub invariant-loop-counted : goal.invariant-loop-counted
invariant-loop-counted l = AreCounts l.most l.counted l.row.items × (l.counted ≤ l.items)

abbrev pub decreases-loop-counted : goal.decreases-loop-counted
decreases-loop-counted l = l.items - l.counted
