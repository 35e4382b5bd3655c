-- In which slices a test is sought. (This project's rule.)
use Rattle.std.specs.Prelude.{ℕ, Bool, true, ◌&&◌, List, [], Option, Some, None, slice_index_or}
use Rattle.std.specs.List.{list_any}
use Rattle.cov_model.specs.declared.slice.Slice.{Slice}
use Rattle.cov_model.specs.declared.slice.Slice.TheVariants.{Negative}
use Rattle.cov_model.specs.believed.Meaning.{value_at}
use Rattle.cov_model.specs.believed.Slices.{slice_values, value_numbers}
use Rattle.cov_model.specs.believed.Sound.{ModelView}
use Rattle.cov_model.specs.believed.Valid.{param_numbers}
use Rattle.definitions.specs.believed.Completion.{is_extendable}
use Rattle.definitions.specs.believed.Demand.{is_among}

-- the value of a parameter is negative, and the partial row is extendable in its slice
abbrev pub in_slice_of : ModelView → List (Option ℕ) → ℕ → ℕ → Bool
in_slice_of m cells p v = (value_at m p v).negative && is_extendable m (Negative p v) cells

-- that of one of its negative values
abbrev pub in_negative : ModelView → List (Option ℕ) → ℕ → Bool
in_negative m cells p = list_any (in_slice_of m cells p) (value_numbers m p)

-- and of one of some parameter
abbrev pub in_some_negative : ModelView → List (Option ℕ) → Bool
in_some_negative m cells = list_any (in_negative m cells) (param_numbers m)

-- the cell of a parameter has no value, or one of the slice
abbrev pub is_cell_of : ModelView → Slice → ℕ → Option ℕ → Bool
is_cell_of m slice p None = true
is_cell_of m slice p (Some v) = is_among (slice_index_or (slice_values m slice) p []) v
