-- The partial rows that a tuple may still join: those with an empty cell that have no other value in the column that
-- grows. (This project's rule.)
use Rattle.std.specs.Prelude.{◌≡◌, ℕ, ◌<◌, Bool, true, false, ◌||◌, ◌==◌, All, List, [], ◌∷◌, ◌++◌, length, nat_lt, Option, Some, None, slice_index_or, slice_set, if◌then◌else◌}
use Rattle.std.specs.List.{list_all}
use Rattle.std.specs.Option.{option_map_or}
use Rattle.cov_model.specs.believed.Rows.{is_assigned}
use Rattle.definitions.specs.believed.Demand.{is_among}
use Rattle.tuple_index.specs.Places.{RisesFrom}

-- the partial row has a value in each of these columns
abbrev pub is_filled : List ℕ → List (Option ℕ) → Bool
is_filled columns row = list_all (is_assigned row) columns

-- the partial row has no other value than this one in a column
abbrev pub may_have : ℕ → ℕ → List (Option ℕ) → Bool
may_have p v row = option_map_or (λ w. w == v) (slice_index_or row p None) true

-- numbers of partial rows: of some without a value in a column, and of some with each value there
pub record UnfilledLists : Type 0 where
  pub without : List ℕ
  pub by_value : List (List ℕ)

-- the number is among those of rows that a tuple with this value may join
abbrev pub is_candidate : UnfilledLists → ℕ → ℕ → Bool
is_candidate unfilled v i = is_among unfilled.without i || is_among (slice_index_or unfilled.by_value v []) i

-- two rising lists as one, a number of both once
abbrev pub merged : List ℕ → List ℕ → List ℕ
merged [] others = others
merged (i ∷ numbers) [] = i ∷ numbers
merged (i ∷ numbers) (j ∷ others) =
    if nat_lt i j then i ∷ merged numbers (j ∷ others)
    else if nat_lt j i then j ∷ merged (i ∷ numbers) others
    else i ∷ merged numbers others

-- the numbers of rows that a tuple with this value may join
abbrev pub candidates : UnfilledLists → ℕ → List ℕ
candidates unfilled v = merged unfilled.without (slice_index_or unfilled.by_value v [])

-- the number of one more row, which has this value there or none
abbrev pub with_number : Option ℕ → ℕ → UnfilledLists → UnfilledLists
with_number None number unfilled = record { without = unfilled.without ++ number ∷ []; by_value = unfilled.by_value }
with_number (Some v) number unfilled = record {
  without = unfilled.without;
  by_value = slice_set unfilled.by_value v (slice_index_or unfilled.by_value v [] ++ number ∷ []);
}

-- the number of one more row, unless it is filled
abbrev pub with_unfilled : List ℕ → ℕ → List (Option ℕ) → ℕ → UnfilledLists → UnfilledLists
with_unfilled columns p row number unfilled =
    if is_filled columns row then unfilled else with_number (slice_index_or row p None) number unfilled

-- rising numbers of partial rows by the values of a column, which has so many values: each row with an empty cell in
-- one of these columns is a candidate for the tuples with the value that it may have
pub record HasUnfilled (columns : List ℕ) (p count : ℕ) (rows : List (List (Option ℕ))) (unfilled : UnfilledLists) : Type 0 where
  pub values : length unfilled.by_value ≡ count
  pub without_rise : RisesFrom 0 (length rows) unfilled.without
  pub by_value_rise : All (RisesFrom 0 (length rows)) unfilled.by_value
  pub others : (v i : ℕ) → i < length rows → may_have p v (slice_index_or rows i []) ≡ true → is_candidate unfilled v i ≡ false
      → is_filled columns (slice_index_or rows i []) ≡ true
