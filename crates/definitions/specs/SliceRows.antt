-- Which slices a model has, and which partial rows are of a slice. (This project's rule.)
use Rattle.std.specs.Prelude.{◌≡◌, ℕ, ◌<◌, true, List, [], length, Option, slice_index_or}
use Rattle.cov_model.specs.declared.slice.Slice.{Slice}
use Rattle.cov_model.specs.declared.slice.Slice.TheVariants.{Positive, Negative}
use Rattle.cov_model.specs.believed.Sound.{ModelView, param_at}
use Rattle.cov_model.specs.believed.Rows.{is_assigned, value_in}
use Rattle.cov_model.specs.Fits.{FitsModel}
use Rattle.cov_model.specs.believed.Meaning.{value_at}
use Rattle.cov_model.specs.believed.Slices.{slice_values}
use Rattle.definitions.specs.believed.Demand.{is_among}

-- a negative slice is of a model if its value is a negative value of its parameter
abbrev pub IsSliceOf : ModelView → Slice → Type 0
IsSliceOf m Positive = Unit {0}
IsSliceOf m (Negative p v) = (p < length m.params) × (v < length (param_at m.params p).values) × ((value_at m p v).negative ≡ true)

-- a partial row that fits the model is of a slice if each value that it gives is one of the slice
pub record IsOfSlice (m : ModelView) (slice : Slice) (cells : List (Option ℕ)) : Type 0 where
  pub fits : FitsModel m cells
  pub listed : (p : ℕ) → is_assigned cells p ≡ true → is_among (slice_index_or (slice_values m slice) p []) (value_in cells p) ≡ true
