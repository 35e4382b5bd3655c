use Rattle.std.proofs.Common.{◌-◌, ◌≤◌}
use Rattle.std.specs.Prelude.{slice_range}
use Rattle.row_text.specs.RowFiles.{suite_seen}
use Rattle.shared_marks.specs.Adding.{Adds}
use Rattle.shared_marks.specs.Served.{is_served_at}
use Rattle.shared_marks.proofs.many_rows.mark_open.Given as goal

abbrev pub invariant-loop-marked : goal.invariant-loop-marked
invariant-loop-marked l =
    (l.from ≤ l.marked) × (l.marked ≤ l.to) × Adds (is_served_at l.model (slice_range (suite_seen l.file) l.from l.marked)) l.initial.seat l.seat

abbrev pub decreases-loop-marked : goal.decreases-loop-marked
decreases-loop-marked l = l.to - l.marked
