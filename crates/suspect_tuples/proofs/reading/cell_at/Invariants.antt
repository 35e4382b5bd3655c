use Rattle.std.proofs.Common.{◌≡◌, [], length, get_or}
use Rattle.definitions.specs.believed.RowFile.{cells_of_line}
use Rattle.suspect_tuples.proofs.reading.cell_at.Given as goal

abbrev pub invariant-loop-cell : goal.invariant-loop-cell
invariant-loop-cell l = get_or l.cells l.left [] ≡ get_or (cells_of_line l.line) l.place []

abbrev pub decreases-loop-cell : goal.decreases-loop-cell
decreases-loop-cell l = length l.cells
