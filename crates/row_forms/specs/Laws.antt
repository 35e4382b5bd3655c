-- What holds of the forms of a table: each gives the cells back. (This project's rules.)
use Rattle.std.specs.Prelude.{◌≡◌, ℕ, ◌<◌, List, ◌∷◌, map, length, Option, Some, Ok, All}
use Rattle.json.specs.Json.{document}
use Rattle.comma_rows.specs.Reading.{comma_texts}
use Rattle.row_forms.specs.declared.row_form.RowForm.TheVariants.{Csv, Json, Markdown}
use Rattle.row_forms.specs.believed.Forms.{text_of}
use Rattle.row_forms.specs.Json.{table_value}
use Rattle.row_forms.specs.Markdown.{markdown_texts}
use Rattle.row_forms.specs.believed.Tables.{table_text}

-- a table: it has a column, and each row has a cell for each column
abbrev pub IsTable : List (List ℕ) → List (List (Option (List ℕ))) → Type 0
IsTable names rows = (0 < length names) × All (λ row. length row ≡ length names) rows

-- its names and the texts of its rows
abbrev pub texts_of : List (List ℕ) → List (List (Option (List ℕ))) → List (List (List ℕ))
texts_of names rows = names ∷ map (map text_of) rows

-- the csv of a table, read by RFC 4180, has no fault and gives the names and the cells, in order
abbrev pub CsvReadsBack : Type 0
CsvReadsBack = (names : List (List ℕ)) (rows : List (List (Option (List ℕ)))) → IsTable names rows
    → comma_texts (table_text Csv names rows) ≡ Ok (texts_of names rows)

-- the json of a table, read by RFC 8259, is an array of objects with the names and the cells, in order
abbrev pub JsonReadsBack : Type 0
JsonReadsBack = (names : List (List ℕ)) (rows : List (List (Option (List ℕ)))) → document (table_text Json names rows) ≡ Some (table_value names rows)

-- the lines of the markdown of a table give the names and the cells, in order
abbrev pub MarkdownReadsBack : Type 0
MarkdownReadsBack = (names : List (List ℕ)) (rows : List (List (Option (List ℕ)))) → IsTable names rows
    → markdown_texts (table_text Markdown names rows) ≡ texts_of names rows
