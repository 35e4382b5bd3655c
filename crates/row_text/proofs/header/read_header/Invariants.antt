use Rattle.std.proofs.Common.{◌≡◌, length}
use Rattle.definitions.specs.believed.RowFile.{cells_of_line}
use Rattle.row_text.proofs.ColumnSteps.{HeaderSoFar}
use Rattle.row_text.proofs.header.read_header.Given as goal

abbrev pub invariant-loop-cell : goal.invariant-loop-cell
invariant-loop-cell l = record {
  so_far : HeaderSoFar l.initial.names (cells_of_line l.line.text.now) l.cells l.line.number l.header.columns l.header.notes;
  same : l.names ≡ l.initial.names;
}

abbrev pub decreases-loop-cell : goal.decreases-loop-cell
decreases-loop-cell l = length l.cells
