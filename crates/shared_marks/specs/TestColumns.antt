-- Tests that are marked together, with the places of their values by columns. (How this program marks rows; no
-- public clause speaks of it.)
use Rattle.std.specs.Prelude.{◌≡◌, ◌≢◌, ℕ, ◌<◌, Bool, true, false, ◌&&◌, List, [], map, length, All, Option, Some, slice_index_or}
use Rattle.cov_model.specs.declared.slice.Slice.{Slice}
use Rattle.cov_model.specs.declared.slice.Slice.TheVariants.{Positive, Negative}
use Rattle.cov_model.specs.believed.Rows.{is_complete, value_in}
use Rattle.cov_model.specs.believed.Slices.{positive_values, slice_of}
use Rattle.cov_model.specs.believed.Sound.{ModelView, param_at}
use Rattle.cov_model.specs.believed.Valid.{is_valid}
use Rattle.tuple_index.specs.Places.{place, place_of}
use Rattle.shared_marks.specs.Digits.{own_slice}
use Rattle.shared_marks.specs.Served.{IsServedRank}

-- rows, and for each parameter a column of places
pub record ColumnsView : Type 0 where
  pub tests : List (List (Option ℕ))
  pub places : List (List ℕ)

abbrev pub is_positive : Slice → Bool
is_positive Positive = true
is_positive (Negative q v) = false

-- no parameter has a negative value
abbrev pub HasNoNegative : ModelView → Type 0
HasNoNegative m = (p : ℕ) → p < length m.params → length (positive_values m p) ≡ length (param_at m.params p).values

-- a test without a negative value
abbrev pub is_plain : ModelView → List (Option ℕ) → Bool
is_plain m row = is_positive (slice_of m row) && (is_complete row && is_valid m row)

-- the place of the value that a row gives a parameter, among those of its slice
abbrev pub digit_in : ModelView → ℕ → List (Option ℕ) → ℕ
digit_in m p row = place_of (own_slice m row p) (value_in row p)

-- the place of the values that it gives some members
abbrev pub place_in : ModelView → List ℕ → List (Option ℕ) → ℕ
place_in m members row = place (own_slice m row) members (map (value_in row) members)

-- the rows are tests without a negative value
abbrev pub ArePlain : ModelView → List (List (Option ℕ)) → Type 0
ArePlain m tests = All (λ row. is_plain m row ≡ true) tests

-- so they are, and the column of a parameter, where it isn't empty, has the places of their values
pub record AreColumns (m : ModelView) (columns : ColumnsView) : Type 0 where
  pub plain : ArePlain m columns.tests
  pub wide : length columns.places ≡ length m.params
  pub each : (p : ℕ) → p < length m.params → slice_index_or columns.places p [] ≢ [] → slice_index_or columns.places p [] ≡ map (digit_in m p) columns.tests

-- the rank of the demanded tuple of a set that each test serves
pub record AreRanks (m : ModelView) (set : List ℕ) (tests : List (List (Option ℕ))) (ranks : List ℕ) : Type 0 where
  pub long : length ranks ≡ length tests
  pub each : (at : ℕ) → at < length tests → IsServedRank m set (slice_index_or tests at []) (Some (slice_index_or ranks at 0))
