-- Rows in order of first occurrence. (This project's rule.)
use Rattle.std.specs.Prelude.{ℕ, Bool, List, [], ◌∷◌, ◌++◌, Option, if◌then◌else◌}
use Rattle.std.specs.List.{list_any}
use Rattle.definitions.specs.believed.Seeds.{is_same_row}

-- one of the rows is the same as this one
abbrev pub is_known_row : List (List (Option ℕ)) → List (Option ℕ) → Bool
is_known_row rows row = list_any (λ known. is_same_row known row) rows

-- the rows with this one at the end, unless one of them is the same
abbrev pub with_row : List (List (Option ℕ)) → List (Option ℕ) → List (List (Option ℕ))
with_row rows row = if is_known_row rows row then rows else rows ++ row ∷ []
