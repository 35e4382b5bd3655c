-- What a search for fewer rows gives. (This project's rule.)
use Rattle.std.specs.Prelude.{◌≡◌, ℕ, ◌<◌, List, length, Option, All, AllPairs}
use Rattle.cov_model.specs.believed.Sound.{ModelView}
use Rattle.cov_model.specs.Fits.{FitsModel}

-- each of the rows stands for a given one, by numbers that rise, and fits the model
pub record AreFewer (m : ModelView) (given : List (List (Option ℕ))) (numbers : List ℕ) (rows : List (List (Option ℕ))) : Type 0 where
  pub as_many : length numbers ≡ length rows
  pub exist : All (λ number. number < length given) numbers
  pub rising : AllPairs (λ a b. a < b) numbers
  pub fit : All (FitsModel m) rows

-- those that stand for one of the first given rows, so many
pub record AreFewerBefore (m : ModelView) (given : List (List (Option ℕ))) (count : ℕ) (numbers : List ℕ) (rows : List (List (Option ℕ))) : Type 0 where
  pub are : AreFewer m given numbers rows
  pub below : All (λ number. number < count) numbers
