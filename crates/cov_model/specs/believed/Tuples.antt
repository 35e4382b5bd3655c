-- Tuples as lists of pairs (parameter, value), and as partial rows.
use Rattle.std.specs.Prelude.{ℕ, List, [], ◌∷◌, replicate, Option, None}
use Rattle.cov_model.specs.believed.Rows.{with_value}

-- the partial row of n parameters with these values
abbrev pub cells_of : ℕ → List (ℕ × ℕ) → List (Option ℕ)
cells_of n [] = replicate n None
cells_of n (pair ∷ pairs) = with_value (cells_of n pairs) pair.0 pair.1
