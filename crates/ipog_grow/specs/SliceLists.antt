-- The negative slices of one parameter. (This project's rules.)
use Rattle.std.specs.Prelude.{ℕ, List, map}
use Rattle.cov_model.specs.declared.slice.Slice.{Slice}
use Rattle.cov_model.specs.declared.slice.Slice.TheVariants.{Negative}
use Rattle.cov_model.specs.believed.Sound.{ModelView}
use Rattle.cov_model.specs.believed.Slices.{negative_values}

-- a slice for each of its negative values, values rising
abbrev pub negative_slices : ModelView → ℕ → List Slice
negative_slices m p = map (λ v. Negative p v) (negative_values m p)
