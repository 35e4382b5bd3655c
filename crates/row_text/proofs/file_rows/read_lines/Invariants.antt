use Rattle.std.proofs.Common.{◌≡◌, length}
use Rattle.row_text.proofs.ReadingSteps.{LinesSoFar}
use Rattle.row_text.proofs.file_rows.read_lines.Given as goal

abbrev pub invariant-loop-line : goal.invariant-loop-line
invariant-loop-line l = record {
  so_far : LinesSoFar l.initial.names l.fn.header.columns l.initial.notes l.initial.lines l.lines l.rows l.notes;
  same : l.names ≡ l.initial.names;
}

abbrev pub decreases-loop-line : goal.decreases-loop-line
decreases-loop-line l = length l.lines
