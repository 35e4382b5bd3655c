-- Cells one after another, as rows. (This project's rule.)
use Rattle.std.specs.Prelude.{Bool, List, [], ◌∷◌, if◌then◌else◌}

-- a cell before rows: it is of the first of them, unless it ends its own
abbrev pub onto_rows : {A : Type 0} → Bool → A → List (List A) → List (List A)
onto_rows ends_row cell [] = (cell ∷ []) ∷ []
onto_rows ends_row cell (row ∷ rows) = if ends_row then (cell ∷ []) ∷ row ∷ rows else (cell ∷ row) ∷ rows

-- the rows of cells, of which some end their row
abbrev pub rows_of : {A : Type 0} → (A → Bool) → List A → List (List A)
rows_of ends_row [] = []
rows_of ends_row (cell ∷ cells) = onto_rows (ends_row cell) cell (rows_of ends_row cells)
