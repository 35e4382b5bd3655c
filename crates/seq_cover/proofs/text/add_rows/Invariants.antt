use Rattle.std.proofs.Common.{◌≡◌, ◌++◌, map, take}
use Rattle.seq_check.specs.believed.OrderReport.{row_line}
use Rattle.seq_cover.specs.believed.ReportText.{text_of_lines}
use Rattle.seq_cover.proofs.text.add_rows.Given as goal

abbrev pub invariant-loop-row : goal.invariant-loop-row
invariant-loop-row l = l.text.items ≡ l.initial.text.items ++ text_of_lines (map (row_line l.events) (take l.row-index l.row-items))
