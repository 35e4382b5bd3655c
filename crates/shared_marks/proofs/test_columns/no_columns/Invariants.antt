use Rattle.std.proofs.Common.{◌≡◌, ◌-◌, ◌≤◌, All, [], length}
use Rattle.shared_marks.proofs.test_columns.no_columns.Given as goal

abbrev pub invariant-loop-alloc : goal.invariant-loop-alloc
invariant-loop-alloc l = (length l.columns.items ≤ l.count) × All (λ column. column.items ≡ []) l.columns.items

abbrev pub decreases-loop-alloc : goal.decreases-loop-alloc
decreases-loop-alloc l = l.count - length l.columns.items
