-- What is asked of the demanded tuples: questions that are kept, about a slice each, and the partial rows that are asked.
-- (This project's rule.)
use Rattle.std.specs.Prelude.{◌≡◌, ℕ, Bool, true, List, [], ◌∷◌, length, Option, None, slice_index_or}
use Rattle.std.specs.List.{filter, flat_map}
use Rattle.cov_model.specs.declared.slice.Slice.{Slice}
use Rattle.cov_model.specs.believed.Slices.{slice_values}
use Rattle.cov_model.specs.believed.Sound.{ModelView}
use Rattle.definitions.specs.declared.effort.Effort.{Effort}
use Rattle.cov_model.specs.believed.Rows.{with_value}
use Rattle.definitions.specs.believed.Demand.{is_among}
use Rattle.definitions.specs.believed.Search.{exceeds, plain_cost, plain_search}
use Rattle.definitions.specs.SliceRows.{IsOfSlice, IsSliceOf}
use Rattle.tuple_index.specs.Places.{RisesFrom}
use Rattle.coverage_measure.specs.declared.asking.KeptQuestions.{KeptQuestions}

-- they are about their slice of the model, with these preferences, what a question may cost, and the values of the slice
pub record IsFor (m : ModelView) (pref : List (List ℕ)) (effort : Effort) (one : KeptQuestions) : Type 0 where
  pub slice : IsSliceOf m one.slice
  pub questions : one.questions ≡ record { model = m; prefs = pref; slice = one.slice; effort = effort }
  pub values : one.values ≡ slice_values m one.slice

-- a search from the partial row succeeds
abbrev pub is_found : ModelView → List (List ℕ) → Slice → List (Option ℕ) → Bool
is_found m pref slice cells = (plain_search m pref slice cells).found

-- its plain cost is above what a question may cost
abbrev pub is_above : ModelView → List (List ℕ) → Slice → Effort → List (Option ℕ) → Bool
is_above m pref slice effort cells = exceeds effort (plain_cost m pref slice cells)

-- how many of the partial rows pass a test
abbrev pub tally : (List (Option ℕ) → Bool) → List (List (Option ℕ)) → ℕ
tally test rows = length (filter test rows)

-- the partial row with each choice of a listed value for each of these parameters, in lexicographic order
abbrev pub with_values : List (List ℕ) → List ℕ → List (Option ℕ) → List (List (Option ℕ))
with_values lists [] cells = cells ∷ []
with_values lists (p ∷ params) cells = flat_map (λ v. with_values lists params (with_value cells p v)) (slice_index_or lists p [])

-- the partial row is of the slice, and has no value of the parameters, which rise
pub record IsBefore (m : ModelView) (slice : Slice) (params : List ℕ) (cells : List (Option ℕ)) : Type 0 where
  pub of : IsOfSlice m slice cells
  pub rising : RisesFrom 0 (length m.params) params
  pub free : (p : ℕ) → is_among params p ≡ true → slice_index_or cells p None ≡ None
