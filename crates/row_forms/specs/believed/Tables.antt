-- The text of a table in a form. (This project's rule.)
use Rattle.std.specs.Prelude.{ℕ, Bool, true, false, List, [], ◌∷◌, ◌++◌, length, Option, ◌==◌}
use Rattle.row_forms.specs.declared.row_form.RowForm.{RowForm}
use Rattle.row_forms.specs.believed.Forms.{piece, row_start, row_end, name_piece, head_end, tail_text}

-- the pieces of names one after another
abbrev pub name_pieces : RowForm → Bool → Bool → List (List ℕ) → List ℕ
name_pieces form first only [] = []
name_pieces form first only (name ∷ names) = name_piece form first only name ++ name_pieces form false only names

-- the pieces of cells, one for each column
abbrev pub pieces : RowForm → Bool → Bool → List (List ℕ) → List (Option (List ℕ)) → List ℕ
pieces form first only [] cells = []
pieces form first only (name ∷ names) [] = []
pieces form first only (name ∷ names) (cell ∷ cells) = piece form first only name cell ++ pieces form false only names cells

-- whether there is one column
abbrev pub is_single : List (List ℕ) → Bool
is_single names = length names == 1

abbrev pub head_text : RowForm → List (List ℕ) → List ℕ
head_text form names = name_pieces form true (is_single names) names ++ head_end form names

-- a row, which may be the first
abbrev pub row_text : RowForm → List (List ℕ) → Bool → List (Option (List ℕ)) → List ℕ
row_text form names first cells = row_start form first ++ (pieces form true (is_single names) names cells ++ row_end form)

abbrev pub rows_text : RowForm → List (List ℕ) → Bool → List (List (Option (List ℕ))) → List ℕ
rows_text form names first [] = []
rows_text form names first (row ∷ rows) = row_text form names first row ++ rows_text form names false rows

abbrev pub table_text : RowForm → List (List ℕ) → List (List (Option (List ℕ))) → List ℕ
table_text form names rows = head_text form names ++ (rows_text form names true rows ++ tail_text form)
