-- The rows of a file with their lines, as those of a suite.
use Rattle.std.proofs.Common.{◌≡◌, ℕ, List, Option, map}
use Rattle.std.proofs.lemmas.Simd.{map-map}
use Rattle.row_text.specs.RowFiles.{row_seen}
use Rattle.row_text.specs.declared.row_file.FileRow.{FileRow}

pub suite_rows : (rows : List FileRow) → map (λ row. row.1) (map row_seen rows) ≡ map (λ row. row.cells) rows
suite_rows rows = map-map (λ (row : ℕ × List (Option ℕ)). row.1) row_seen rows
