use Rattle.std.proofs.Common.{◌≡◌, ◌≤◌, length}
use Rattle.definitions.specs.believed.RowFile.{cells_of_line}
use Rattle.row_text.proofs.RowSteps.{RowSoFar}
use Rattle.row_text.proofs.file_rows.read_row.Given as goal

abbrev pub invariant-loop-cell : goal.invariant-loop-cell
invariant-loop-cell l = record {
  so_far : RowSoFar l.initial.names l.columns (cells_of_line l.line.text.now) l.cells l.line.number l.initial.notes l.place l.row l.notes;
  few : l.place ≤ length (cells_of_line l.line.text.now);
  same : l.names ≡ l.initial.names;
}

abbrev pub decreases-loop-cell : goal.decreases-loop-cell
decreases-loop-cell l = length l.cells
