-- How a text of comma-separated values reads. (RFC 4180, section 2.)
use Rattle.std.specs.Prelude.{ℕ, List, map, Result}
use Rattle.comma_rows.specs.declared.comma_fault.CommaFault.{CommaFault}
use Rattle.comma_rows.specs.Rows.{rows_of}
use Rattle.comma_rows.specs.believed.Reading.{Cell, comma_cells, unless_fault}

-- the rows of a text, or why it is no table
abbrev pub comma_rows : List ℕ → Result (List (List Cell)) CommaFault
comma_rows bytes = let reading = comma_cells bytes in unless_fault reading.fault (rows_of (λ cell. cell.ends_row) reading.cells)

-- the texts of the cells of each row, or why the text is no table
abbrev pub comma_texts : List ℕ → Result (List (List (List ℕ))) CommaFault
comma_texts bytes = let reading = comma_cells bytes in unless_fault reading.fault (map (map (λ cell. cell.text)) (rows_of (λ cell. cell.ends_row) reading.cells))
