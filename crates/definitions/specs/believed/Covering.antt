-- What a covering array is. (Lei and others 2007; that a tuple which no row serves is left out is PICT's
-- guide's rule.)
use Rattle.std.specs.Prelude.{◌≡◌, ℕ, ◌+◌, ◌≤◌, false, List, filter, length, Option, AllPairs}
use Rattle.cov_model.specs.believed.Sound.{ModelView}
use Rattle.cov_model.specs.believed.Valid.{serves}
use Rattle.definitions.specs.believed.Demand.{demanded_tuples}
use Rattle.definitions.specs.believed.Figures.{all_rows, is_served}
use Rattle.definitions.specs.believed.Seeds.{is_same_row}

-- no row of the model serves the tuple
abbrev pub IsUnserved : ModelView → List (Option ℕ) → Type 0
IsUnserved m tuple = (row : List (Option ℕ)) → serves m row tuple ≡ false

-- no two rows are the same, and there are no more of them than demanded tuples that some row of the model
-- serves and kept seeds
pub record HasFewRows (m : ModelView) (kept : ℕ) (rows : List (List (Option ℕ))) : Type 0 where
  pub distinct : AllPairs (λ a b. is_same_row a b ≡ false) rows
  pub few : length rows ≤ length (filter (is_served m (all_rows m)) (demanded_tuples m)) + kept
