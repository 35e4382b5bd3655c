use Rattle.std.proofs.Common.{take}
use Rattle.shared_marks.specs.Adding.{Marks}
use Rattle.shared_marks.specs.Served.{is_served_at}
use Rattle.suite_shrink.proofs.served.mark_rows.Given as goal

-- what the rows before this one serve is marked
abbrev pub invariant-loop-i : goal.invariant-loop-i
invariant-loop-i l = Marks (is_served_at l.model (take l.i l.rows)) l.initial.seat l.seat
