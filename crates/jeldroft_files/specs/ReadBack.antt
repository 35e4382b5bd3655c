-- What the table whose cells tabs part says: the rows of the one whose cells commas part, each in the line that it begins
-- in. (This project's rule.)
use Rattle.std.specs.Prelude.{◌≡◌, true, ℕ, List, [], ◌∷◌, map, Ok}
use Rattle.comma_rows.specs.believed.Reading.{Cell, comma_cells}
use Rattle.comma_rows.specs.Rows.{rows_of}
use Rattle.definitions.specs.believed.RowFile.{cells_of_line, filled_lines, without_spaces}
use Rattle.jeldroft_files.specs.believed.Tables.{as_tabs, shown_byte}

-- the rows of a table whose cells tabs part, each with its line
abbrev pub tab_rows : List ℕ → List (ℕ × List (List ℕ))
tab_rows table = map (λ line. (line.0, cells_of_line line.1)) (filled_lines table)

-- the line that a row begins in
abbrev pub row_line : List Cell → ℕ
row_line [] = 0
row_line (cell ∷ cells) = cell.at.line

-- what a cell is there
abbrev pub shown_cell : Cell → List ℕ
shown_cell cell = without_spaces (map shown_byte cell.text)

-- a text of comma-separated values reads the same once tabs part its cells
abbrev pub CommasReadAsTabs : Type 0
CommasReadAsTabs = (bytes table : List ℕ) → as_tabs true bytes ≡ Ok table
    → tab_rows table ≡ map (λ row. (row_line row, map shown_cell row)) (rows_of (λ cell. cell.ends_row) (comma_cells bytes).cells)
