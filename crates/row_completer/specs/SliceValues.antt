-- The values of the parameters in a slice. (This project's rule.)
use Rattle.std.specs.Prelude.{◌≡◌, ℕ, List}
use Rattle.cov_model.specs.declared.slice.Slice.{Slice}
use Rattle.cov_model.specs.believed.Slices.{slice_values}
use Rattle.cov_model.specs.believed.Sound.{ModelView}
use Rattle.definitions.specs.SliceRows.{IsSliceOf}

-- the slice is one of the model's, and the lists are its values
pub record AreValuesOf (m : ModelView) (slice : Slice) (lists : List (List ℕ)) : Type 0 where
  pub own : IsSliceOf m slice
  pub are : lists ≡ slice_values m slice
