use Rattle.std.proofs.Common.{map, not, take}
use Rattle.std.specs.List.{filter}
use Rattle.cov_model.specs.believed.Slices.{slice_of}
use Rattle.shared_marks.specs.Adding.{Marks}
use Rattle.shared_marks.specs.TestColumns.{is_positive}
use Rattle.shared_marks.specs.Served.{is_served_at}
use Rattle.shared_marks.proofs.many_rows.mark_negatives.Given as goal

abbrev pub invariant-loop-row : goal.invariant-loop-row
invariant-loop-row l =
    Marks (is_served_at l.model (filter (λ cells. not (is_positive (slice_of l.model cells))) (map (λ row. row.cells) (take l.row-index l.rows)))) l.initial.seat l.seat
