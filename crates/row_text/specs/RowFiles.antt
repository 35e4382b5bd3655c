-- What a row file holds, as definitions take it: each partial row with the number of its line.
-- (PICT's guide for seed files.)
use Rattle.std.specs.Prelude.{ℕ, List, map, Option}
use Rattle.row_text.specs.declared.row_file.FileRow.{FileRow}
use Rattle.row_text.specs.declared.row_file.RowFile.{RowFile}

-- a row with its line
abbrev pub row_seen : FileRow → ℕ × List (Option ℕ)
row_seen row = (row.line, row.cells)

-- the rows of a file as seeds
abbrev pub seeds_seen : RowFile → List (ℕ × List (Option ℕ))
seeds_seen file = map row_seen file.rows

-- the rows of a file as a suite
abbrev pub suite_seen : RowFile → List (List (Option ℕ))
suite_seen file = map (λ row. row.cells) file.rows
