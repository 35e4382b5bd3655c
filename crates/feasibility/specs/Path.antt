-- Where plain search ends when it succeeds. (This project's rule.)
use Rattle.std.specs.Prelude.{ℕ, List, [], ◌∷◌, Option, Some, None, slice_index_or, slice_get, if◌then◌else◌}
use Rattle.cov_model.specs.believed.Sound.{ModelView}
use Rattle.cov_model.specs.believed.Rows.{is_assigned, with_value}
use Rattle.definitions.specs.believed.Search.{Outcome, visit}

-- a cell without a value gets the first of the list
abbrev pub filled_cell : List ℕ → Option ℕ → Option ℕ
filled_cell values (Some v) = Some v
filled_cell values None = slice_get values 0

-- so does each parameter without a value
abbrev pub filled : List (List ℕ) → List (Option ℕ) → List (Option ℕ)
filled lists [] = []
filled [] (cell ∷ cells) = cell ∷ cells
filled (values ∷ rest) (cell ∷ cells) = filled_cell values cell ∷ filled rest cells

-- the row that the first value with a successful visit leads to
abbrev pub reached_by
    : (List (Option ℕ) → Outcome) → (List (Option ℕ) → List (Option ℕ)) → List (Option ℕ) → ℕ → List ℕ → List (Option ℕ)
reached_by visit reached cells p [] = cells
reached_by visit reached cells p (v ∷ values) =
    if (visit (with_value cells p v)).found then reached (with_value cells p v) else reached_by visit reached cells p values

-- the partial row that a successful visit leads to: all constrained parameters have values there
abbrev pub reached : ModelView → List (List ℕ) → List ℕ → List (Option ℕ) → List (Option ℕ)
reached m values [] cells = cells
reached m values (p ∷ params) cells =
    if is_assigned cells p then reached m values params cells
    else reached_by (visit m values params) (reached m values params) cells p (slice_index_or values p [])
