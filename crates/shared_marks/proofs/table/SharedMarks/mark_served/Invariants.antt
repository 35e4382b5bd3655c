use Rattle.std.proofs.Common.{map, take}
use Rattle.shared_marks.specs.Adding.{Marks}
use Rattle.shared_marks.specs.Served.{is_served_at}
use Rattle.shared_marks.proofs.table.SharedMarks.mark_served.Given as goal

abbrev pub invariant-loop-row : goal.invariant-loop-row
invariant-loop-row l = Marks (is_served_at l.model (map (λ row. row.cells) (take l.row-index l.part))) l.initial.seat l.seat
