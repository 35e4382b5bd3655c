-- What a covering array is. (Lei and others 2007; that a tuple which no row serves is left out is PICT's
-- guide's rule.)
use Rattle.std.specs.Prelude.{◌≡◌, ℕ, ◌⊎◌, true, List, Option, All}
use Rattle.std.specs.List.{Any}
use Rattle.cov_model.specs.believed.Sound.{ModelView}
use Rattle.cov_model.specs.believed.Valid.{is_valid, serves}
use Rattle.definitions.specs.believed.Demand.{demanded_tuples}
use Rattle.definitions.specs.believed.Covering.{IsUnserved}

-- every row is valid, and every demanded tuple is served by one of the rows, or no row serves it
pub record Covers (m : ModelView) (rows : List (List (Option ℕ))) : Type 0 where
  pub valid : All (λ row. is_valid m row ≡ true) rows
  pub served : All (λ tuple. Any (λ row. serves m row tuple ≡ true) rows ⊎ IsUnserved m tuple) (demanded_tuples m)
