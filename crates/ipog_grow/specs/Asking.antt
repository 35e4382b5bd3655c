-- What questions are asked of a slice, and what their answers tell. (This project's rules.)
use Rattle.std.specs.Prelude.{◌≡◌, ℕ, ◌<◌, Bool, true, List, [], ◌∷◌, ◌++◌, map, drop, slice_get, slice_index_or, slice_set}
use Rattle.std.specs.Prelude.{length, slice_index, if◌then◌else◌, All, Option, None, Some, Result, Ok, Err}
use Rattle.std.specs.List.{filter}
use Rattle.cov_model.specs.believed.Sound.{IsSound}
use Rattle.cov_model.specs.Preference.{OrdersValues}
use Rattle.definitions.specs.believed.Completion.{is_extendable, preferred_values, falling}
use Rattle.cov_model.specs.believed.Rows.{with_value}
use Rattle.definitions.specs.believed.Pairs.{pairs_of}
use Rattle.definitions.specs.believed.Growth.{Filled, Grown, across, agrees, column, columns, fill, union, first_extendable, is_uncovered, tuples_in_play}
use Rattle.definitions.specs.believed.Search.{first_over}
use Rattle.definitions.specs.SliceRows.{IsSliceOf}
use Rattle.full_search.specs.Questions.{QuestionsView}
use Rattle.ipog_grow.specs.declared.stop.Stop.{Stop}
use Rattle.ipog_grow.specs.declared.stop.Stop.TheVariants.{Spent, NoMemory}
use Rattle.uncovered_table.specs.Open.{IsPlaceOf, OpenView, all_open}
use Rattle.uncovered_table.specs.Places.{is_behind, tuple_at}
use Rattle.ipog_grow.specs.Growing.{GrowsIn, IsInPlay, Keeps, Rises, open_places, open_tuples}

-- what decides the answers is sound: the model is, and the slice and the orders are the model's
pub record IsSoundContext (context : QuestionsView) : Type 0 where
  pub sound : IsSound context.model
  pub slice : IsSliceOf context.model context.slice
  pub orders : OrdersValues context.model context.prefs

-- who asks, and the last question that cost more than it may
pub record AskerView : Type 0 where
  pub context : QuestionsView
  pub question : List (Option ℕ)

pub record IsAsker (asker : AskerView) : Type 0 where
  pub context : IsSoundContext asker.context
  pub room : length asker.question ≡ length asker.context.model.params

-- a partial row of the slice
abbrev pub Grows : QuestionsView → List (Option ℕ) → Type 0
Grows context cells = GrowsIn context.model context.slice cells

abbrev pub extends : QuestionsView → List (Option ℕ) → Bool
extends context cells = is_extendable context.model context.slice cells

-- the first of the questions whose plain cost is above what a question may cost
abbrev pub first_spent : QuestionsView → List (List (Option ℕ)) → Option (List (Option ℕ))
first_spent context questions = first_over context.model context.prefs context.effort questions

-- an end without a fault tells that no question cost more than it may, and Spent which one did first; want
-- of memory may come before either
abbrev pub Told : {A : Type 0} → Result A Stop → List (Option ℕ) → Option (List (Option ℕ)) → Type 0
Told (Ok value) question over = over ≡ None
Told (Err Spent) question over = over ≡ Some question
Told (Err NoMemory) question over = Unit {0}

-- the values of a column by falling score, the first that leaves the row extendable taken, each asked up to it
abbrev pub tried : QuestionsView → ℕ → List ℕ → List ℕ → ℕ → List (Option ℕ) → Filled
tried context n scores order p row = first_extendable (extends context) row (map (with_value row p) (falling n (λ v. slice_index scores v) order))

-- one partial row, which agrees with the tuple, has become the union with it
pub record IsUnionAt (rows after : List (List (Option ℕ))) (tuple : List (Option ℕ)) (i : ℕ) : Type 0 where
  pub within : i < length rows
  pub agree : agrees (slice_index_or rows i []) tuple ≡ true
  pub put : after ≡ slice_set rows i (union (slice_index_or rows i []) tuple)

-- the table is of the same model and slice
abbrev pub IsTableOf : QuestionsView → OpenView → Type 0
IsTableOf context table = (table.model ≡ context.model) × (table.slice ≡ context.slice)

-- a partial row in a column, given the other rows and the tuples in play there
abbrev pub filled : QuestionsView → ℕ → List (List (Option ℕ)) → List (List (Option ℕ)) → List (Option ℕ) → Filled
filled context p rows tuples row = fill (extends context) p (slice_index_or (preferred_values context.model context.prefs context.slice) p []) tuples rows row

-- horizontal growth of the rows that are left, behind those that are done, given the tuples in play
abbrev pub crossed : QuestionsView → ℕ → List (List (Option ℕ)) → List (List (Option ℕ)) → List (List (Option ℕ)) → Grown
crossed context p tuples done rows = across (extends context) p (slice_index_or (preferred_values context.model context.prefs context.slice) p [])
    tuples done rows

-- the place is that of the first open tuple in play for a column, and no row contains an open one
pub record IsNext (context : QuestionsView) (table : OpenView) (p : ℕ) (place : ℕ × ℕ) (tuple : List (Option ℕ)) (rows : List (List (Option ℕ))) : Type 0 where
  pub of : IsTableOf context table
  pub own : IsPlaceOf table place
  pub first : slice_get (open_places table p) 0 ≡ Some place
  pub tuple_is : tuple ≡ tuple_at table.model place
  pub rises : Rises table.places
  pub uncovered : All (λ open_one. is_uncovered rows open_one ≡ true) (open_tuples table p)
  pub in_play : All (IsInPlay context.model context.slice p) (open_tuples table p)
  pub grows : All (Grows context) rows

-- then the tuple is closed: the open ones are those of the others that no row contains, and stand behind it
pub record IsPassed (context : QuestionsView) (table after : OpenView) (p : ℕ) (place : ℕ × ℕ) (rows : List (List (Option ℕ))) : Type 0 where
  pub moment : open_tuples after p ≡ filter (is_uncovered rows) (drop 1 (open_tuples table p))
  pub behind : All (λ other. is_behind place other ≡ true) (open_places after p)
  pub keeps : Keeps table after p
  pub grows : All (Grows context) rows

-- a tuple that no row takes becomes a new row where it is extendable, else it is omitted
abbrev pub rows_alone : QuestionsView → List (Option ℕ) → List (List (Option ℕ)) → List (List (Option ℕ))
rows_alone context tuple rows = if extends context tuple then rows ++ tuple ∷ [] else rows

abbrev pub omitted_alone : QuestionsView → List (Option ℕ) → List (List (ℕ × ℕ))
omitted_alone context tuple = if extends context tuple then [] else pairs_of tuple ∷ []

-- a table in the growth of a column: its open tuples are in play there and contained in no row
pub record IsOpen (context : QuestionsView) (table : OpenView) (p : ℕ) (rows : List (List (Option ℕ))) : Type 0 where
  pub of : IsTableOf context table
  pub rises : Rises table.places
  pub uncovered : All (λ open_one. is_uncovered rows open_one ≡ true) (open_tuples table p)
  pub in_play : All (IsInPlay context.model context.slice p) (open_tuples table p)
  pub grows : All (Grows context) rows

-- before a column grows, all its tuples are open
pub record IsReady (context : QuestionsView) (table : OpenView) (p : ℕ) (rows : List (List (Option ℕ))) : Type 0 where
  pub of : IsTableOf context table
  pub rises : Rises table.places
  pub all_open : open_tuples table p ≡ tuples_in_play context.model context.slice p
  pub grows : All (Grows context) rows

-- a column of the slice
abbrev pub column_grown : QuestionsView → ℕ → List (List (Option ℕ)) → Grown
column_grown context p rows = column (extends context) p (slice_index_or (preferred_values context.model context.prefs context.slice) p [])
    (tuples_in_play context.model context.slice p) rows

-- columns of the slice in this order
abbrev pub columns_grown : QuestionsView → List ℕ → List (List (Option ℕ)) → Grown
columns_grown context params rows = columns context.model context.prefs context.slice params rows

-- before the first column grows, every tuple of the slice is open, and there is room for a tuple and a partial row
pub record IsNew (context : QuestionsView) (table : OpenView) (tuple room : List (Option ℕ)) : Type 0 where
  pub fresh : table ≡ all_open context.model context.slice
  pub tuple_fits : length tuple ≡ length context.model.params
  pub room_fits : length room ≡ length context.model.params
