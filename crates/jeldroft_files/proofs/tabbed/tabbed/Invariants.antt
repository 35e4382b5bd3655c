use Rattle.std.proofs.Common.{◌≡◌, ◌≤◌, ◌++◌, length}
use Rattle.comma_rows.specs.believed.Reading.{comma_cells}
use Rattle.jeldroft_files.specs.believed.Tables.{tabbed, tabbed_from}
use Rattle.jeldroft_files.proofs.tabbed.tabbed.Given as goal

-- the table has a byte for each line, and with the cells that are left it is the whole; their fault is that of all
abbrev pub invariant-loop-text : goal.invariant-loop-text
invariant-loop-text l = record {
  within : l.line ≤ length l.table.items;
  grown : l.table.items ++ tabbed_from l.starts l.line l.cells.cells ≡ tabbed (comma_cells l.fn.bytes).cells;
  fault : l.cells.fault ≡ (comma_cells l.fn.bytes).fault;
}

abbrev pub decreases-loop-text : goal.decreases-loop-text
decreases-loop-text l = length l.cells.cells
