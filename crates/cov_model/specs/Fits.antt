-- Partial rows of a model.
use Rattle.std.specs.Prelude.{◌≡◌, ℕ, ◌<◌, true, List, Option, length}
use Rattle.cov_model.specs.believed.Sound.{ModelView, param_at}
use Rattle.cov_model.specs.believed.Rows.{is_assigned, value_in}

-- a partial row fits a model if it has a place for each parameter, and each value that it gives exists
pub record FitsModel (m : ModelView) (cells : List (Option ℕ)) : Type 0 where
  pub as_long : length cells ≡ length m.params
  pub exist : (p : ℕ) → is_assigned cells p ≡ true → value_in cells p < length (param_at m.params p).values
