-- Partial rows of one length, one behind another in one list.
use Rattle.std.specs.Prelude.{ℕ, zero, suc, List, [], ◌∷◌, Option, take, drop}

-- so many rows of this length, the first ones
abbrev pub rows_of : ℕ → ℕ → List (Option ℕ) → List (List (Option ℕ))
rows_of width zero places = []
rows_of width (suc count) places = take width places ∷ rows_of width count (drop width places)
