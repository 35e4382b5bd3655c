-- Partial rows, as lists with a place for each parameter, which holds the number of its value where
-- it has one. A row has a value everywhere; a tuple is a partial row. (Lei and others 2007.)
use Rattle.std.specs.Prelude.{ℕ, Bool, true, false, ◌&&◌, List, [], ◌∷◌, Option, Some, None, is_some, is_none, ◌==◌, slice_index_or, slice_set, unwrap_or}
use Rattle.std.specs.List.{list_all}

-- the row gives every value that the other gives
abbrev pub contains : List (Option ℕ) → List (Option ℕ) → Bool
contains row [] = true
contains [] (cell ∷ cells) = is_none cell && contains [] cells
contains (given ∷ row) (None ∷ cells) = contains row cells
contains (None ∷ row) (Some v ∷ cells) = false
contains (Some w ∷ row) (Some v ∷ cells) = (w == v) && contains row cells

-- the parameter has a value
abbrev pub is_assigned : List (Option ℕ) → ℕ → Bool
is_assigned cells p = is_some (slice_index_or cells p None)

-- the value of a parameter that has one
abbrev pub value_in : List (Option ℕ) → ℕ → ℕ
value_in cells p = unwrap_or (slice_index_or cells p None) 0

-- every parameter has a value
abbrev pub is_complete : List (Option ℕ) → Bool
is_complete cells = list_all (λ cell. is_some cell) cells

-- the partial row with this value of a parameter
abbrev pub with_value : List (Option ℕ) → ℕ → ℕ → List (Option ℕ)
with_value cells p v = slice_set cells p (Some v)
