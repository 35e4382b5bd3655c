-- The text of combinations of values that only failing tests have, a line for each. (This project's rule.)
use Rattle.std.specs.Prelude.{ℕ, ◌<◌, List, All, length}
use Rattle.cov_model.specs.believed.Sound.{ModelView, param_at}

-- ---- a parameter of the model and a value of it

abbrev pub IsPairOf : ModelView → ℕ × ℕ → Type 0
IsPairOf m pair = (pair.0 < length m.params) × (pair.1 < length (param_at m.params pair.0).values)

abbrev pub ArePairsOf : ModelView → List (ℕ × ℕ) → Type 0
ArePairsOf m pairs = All (IsPairOf m) pairs
