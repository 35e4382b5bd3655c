-- The forms of a table, as pieces: what stands before the rows, for each cell, around each row, and behind the rows.
-- (csv: RFC 4180. json: RFC 8259, an object on a line of its own. markdown: GitHub's tables. tsv: as row files have it.)
use Rattle.std.specs.Prelude.{ℕ, Bool, true, false, List, [], ◌∷◌, ◌++◌, flat_map, Option, Some, None, if◌then◌else◌}
use Rattle.row_forms.specs.declared.row_form.RowForm.{RowForm}
use Rattle.row_forms.specs.declared.row_form.RowForm.TheVariants.{Tsv, Csv, Json, Markdown}
use Rattle.row_forms.specs.believed.Csv.{csv_cell}
use Rattle.row_forms.specs.believed.Json.{member_text}
use Rattle.row_forms.specs.believed.Markdown.{escaped}

-- the text of a cell: an absent one is empty
abbrev pub text_of : Option (List ℕ) → List ℕ
text_of None = []
text_of (Some text) = text

-- what parts a cell from the one before it
abbrev pub parting : Bool → ℕ → List ℕ
parting first byte = if first then [] else byte ∷ []

-- what stands in a row for the cell of a column of this name: the column may be the first, or the only one
abbrev pub piece : RowForm → Bool → Bool → List ℕ → Option (List ℕ) → List ℕ
piece Tsv first only name cell = parting first 9 ++ text_of cell
piece Csv first only name cell = parting first 44 ++ csv_cell only false (text_of cell)
piece Json first only name cell = parting first 44 ++ member_text name cell
piece Markdown first only name cell = 124 ∷ 32 ∷ (escaped (text_of cell) ++ 32 ∷ [])

-- what stands before the pieces of a row
abbrev pub row_start : RowForm → Bool → List ℕ
row_start Tsv first = []
row_start Csv first = []
row_start Json true = 10 ∷ 123 ∷ []
row_start Json false = 44 ∷ 10 ∷ 123 ∷ []
row_start Markdown first = []

-- what stands behind them
abbrev pub row_end : RowForm → List ℕ
row_end Tsv = 10 ∷ []
row_end Csv = 13 ∷ 10 ∷ []
row_end Json = 125 ∷ []
row_end Markdown = 124 ∷ 10 ∷ []

-- what stands in the head for the name of a column
abbrev pub name_piece : RowForm → Bool → Bool → List ℕ → List ℕ
name_piece Tsv first only name = parting first 9 ++ name
name_piece Csv first only name = parting first 44 ++ csv_cell only first name
name_piece Json first only name = []
name_piece Markdown first only name = 124 ∷ 32 ∷ (escaped name ++ 32 ∷ [])

-- `| --- `
abbrev pub dashes : List ℕ
dashes = 124 ∷ 32 ∷ 45 ∷ 45 ∷ 45 ∷ 32 ∷ []

-- what stands behind the names in the head
abbrev pub head_end : RowForm → List (List ℕ) → List ℕ
head_end Tsv names = 10 ∷ []
head_end Csv names = 13 ∷ 10 ∷ []
head_end Json names = 91 ∷ []
head_end Markdown names = 124 ∷ 10 ∷ (flat_map (λ name. dashes) names ++ 124 ∷ 10 ∷ [])

-- what stands behind the rows
abbrev pub tail_text : RowForm → List ℕ
tail_text Tsv = []
tail_text Csv = []
tail_text Json = 10 ∷ 93 ∷ 10 ∷ []
tail_text Markdown = []
