use Rattle.std.proofs.Common.{◌≡◌, ◌++◌, map, length}
use Rattle.definitions.specs.believed.RowFile.{cells_of_line}
use Rattle.jeldroft_suspect.proofs.cells.cells_of.Given as goal

abbrev pub invariant-loop-cell : goal.invariant-loop-cell
invariant-loop-cell l = map (λ cell. cell.now) l.cells.items ++ l.left ≡ cells_of_line l.line

abbrev pub decreases-loop-cell : goal.decreases-loop-cell
decreases-loop-cell l = length l.left
