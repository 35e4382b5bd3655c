use Rattle.std.proofs.Common.{◌-◌, ◌≤◌}
use Rattle.std.specs.Prelude.{slice_range}
use Rattle.row_text.specs.RowFiles.{suite_seen}
use Rattle.shared_marks.specs.Adding.{Adds}
use Rattle.shared_marks.specs.Served.{is_served_at}
use Rattle.shared_marks.proofs.workers.mark_rounds.Given as goal

abbrev pub invariant-loop-seat : goal.invariant-loop-seat
invariant-loop-seat g l = (l.from ≤ l.count) × Adds (is_served_at l.model (slice_range (suite_seen l.file) 0 l.from)) l.initial.seat l.seat

abbrev pub decreases-loop-seat : goal.decreases-loop-seat
decreases-loop-seat g l = l.count - l.from
