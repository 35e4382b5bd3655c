use Rattle.std.proofs.Common.{◌≡◌, ◌++◌, true, drop}
use Rattle.row_forms.specs.Seen.{cells_seen, names_seen}
use Rattle.row_forms.specs.believed.Tables.{is_single, pieces}
use Rattle.row_forms.proofs.tables.add_cells.Given as goal

-- what is added with what the cells that are left add is what all add
abbrev pub invariant-loop-at : goal.invariant-loop-at
invariant-loop-at l =
    l.into.items ++ pieces l.form l.is_first l.is_only (names_seen (drop l.at l.names)) (cells_seen (drop l.at l.cells))
    ≡ l.fn.into.items ++ pieces l.form true (is_single (names_seen l.names)) (names_seen l.names) (cells_seen l.cells)
