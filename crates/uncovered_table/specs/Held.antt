-- Cells that give the members of a set these values.
use Rattle.std.specs.Prelude.{ℕ, Bool, true, false, ◌&&◌, List, [], ◌∷◌, Option, Some, None, ◌==◌, slice_index_or}

-- the cell has this value
abbrev pub is_value : Option ℕ → ℕ → Bool
is_value None v = false
is_value (Some w) v = w == v

-- each member has its value
abbrev pub gives_values : List (Option ℕ) → List ℕ → List ℕ → Bool
gives_values cells [] values = true
gives_values cells (p ∷ set) [] = true
gives_values cells (p ∷ set) (v ∷ values) = is_value (slice_index_or cells p None) v && gives_values cells set values
