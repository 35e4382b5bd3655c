-- The slices of a model: the positive one, and one for each negative value. (This project's rule.)
use Rattle.std.specs.Prelude.{ℕ, not, List, [], ◌∷◌, map, Option, slice_set}
use Rattle.std.specs.List.{filter, flat_map}
use Rattle.cov_model.specs.declared.slice.Slice.{Slice}
use Rattle.cov_model.specs.declared.slice.Slice.TheVariants.{Positive, Negative}
use Rattle.cov_model.specs.believed.Sound.{ModelView}
use Rattle.cov_model.specs.believed.Rows.{value_in}
use Rattle.cov_model.specs.believed.Meaning.{value_at}
use Rattle.cov_model.specs.believed.Sound.{param_at}
use Rattle.cov_model.specs.believed.Preference.{declared_order}
use Rattle.cov_model.specs.believed.Valid.{negatives, param_numbers}

-- the numbers of the values of a parameter, of those that aren't negative, and of those that are
abbrev pub value_numbers : ModelView → ℕ → List ℕ
value_numbers m p = declared_order (param_at m.params p).values

abbrev pub positive_values : ModelView → ℕ → List ℕ
positive_values m p = filter (λ v. not (value_at m p v).negative) (value_numbers m p)

abbrev pub negative_values : ModelView → ℕ → List ℕ
negative_values m p = filter (λ v. (value_at m p v).negative) (value_numbers m p)

-- the slices in order: the positive one, then the negative ones by parameter and by value
abbrev pub slices : ModelView → List Slice
slices m = Positive ∷ flat_map (λ p. map (λ v. Negative p v) (negative_values m p)) (param_numbers m)

-- each parameter's values in a slice
abbrev pub slice_values : ModelView → Slice → List (List ℕ)
slice_values m Positive = map (positive_values m) (param_numbers m)
slice_values m (Negative q v) = slice_set (map (positive_values m) (param_numbers m)) q (v ∷ [])

-- the slice of a partial row, given the parameters with negative values, of which there is at most one
abbrev pub slice_by : List (Option ℕ) → List ℕ → Slice
slice_by cells [] = Positive
slice_by cells (p ∷ rest) = Negative p (value_in cells p)

-- the slice of a partial row with at most one negative value
abbrev pub slice_of : ModelView → List (Option ℕ) → Slice
slice_of m cells = slice_by cells (negatives m cells)
