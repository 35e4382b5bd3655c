-- What a table keeps of its parts.
use Rattle.std.specs.Prelude.{◌≡◌, ℕ, Bool, true, ◌+◌, ◌<◌, ◌≤◌, List, [], ◌∷◌, ◌++◌, map, length, Option, Some, None, slice_index_or, slice_set, nat_lt, if◌then◌else◌}
use Rattle.std.specs.List.{filter, last_or}
use Rattle.cov_model.specs.declared.slice.Slice.{Slice}
use Rattle.cov_model.specs.believed.Sound.{ModelView}
use Rattle.cov_model.specs.believed.Slices.{value_numbers}
use Rattle.cov_model.specs.believed.Valid.{param_numbers}
use Rattle.definitions.specs.believed.Demand.{is_among, demanded_sets}
use Rattle.definitions.specs.believed.Completion.{column_order}
use Rattle.definitions.specs.SliceRows.{IsSliceOf}
use Rattle.tuple_index.specs.Plan.{PlanView, plan_of}
use Rattle.uncovered_table.specs.declared.block.Block.{Block}
use Rattle.uncovered_table.specs.Bits.{first_bit, sets_in_play, tuple_count}
use Rattle.uncovered_table.specs.Digits.{HasAllValues, digit_of, own_values}
use Rattle.uncovered_table.specs.Places.{set_at, slice_start}

-- the model and the slice of a table
pub record SliceView : Type 0 where
  pub model : ModelView
  pub slice : Slice

-- the plan is the model's, and the slice is one of the model's
pub record IsPartOf (m : ModelView) (slice : Slice) (plan : PlanView) : Type 0 where
  pub planned : plan ≡ plan_of m
  pub own : IsSliceOf m slice

-- the last parameter of a set in the column order of a slice
abbrev pub last_column : ModelView → Slice → List ℕ → Option ℕ
last_column m slice set = last_or None (filter (is_among set) (column_order m slice))

-- the column for which a set is in play, if it has a tuple in the slice
abbrev pub play_column : ModelView → Slice → ℕ → Option ℕ
play_column m slice set = if nat_lt 0 (tuple_count m slice set) then last_column m slice (set_at m set) else None

-- the bits and the ranks of a set
pub record IsBlock (m : ModelView) (slice : Slice) (set : ℕ) (block : Block) : Type 0 where
  pub first : block.first ≡ first_bit m slice set
  pub start : 0 < block.count → block.start ≡ slice_start m (set_at m set) slice
  pub count : block.count ≡ tuple_count m slice set

-- where the bits of each of the first sets begin, and where those of the last of them end
pub record AreBegins (m : ModelView) (slice : Slice) (sets : ℕ) (begins : List ℕ) : Type 0 where
  pub many : length begins ≡ sets + 1
  pub each : (set other : ℕ) → set ≤ sets → slice_index_or begins set other ≡ first_bit m slice set

-- the digits of the values of a parameter
abbrev pub digits_of : ModelView → Slice → ℕ → List (Option ℕ)
digits_of m slice p = map (digit_of (own_values m slice p)) (value_numbers m p)

-- the first bits of the sets in play for a column
abbrev pub firsts_of : ModelView → Slice → ℕ → List ℕ
firsts_of m slice p = map (first_bit m slice) (sets_in_play m slice p)

-- the bits of each set, the sets in play for each column and their first bits, and the digits of each parameter's values; in plain tables each value
-- is its own digit
pub record AreTablesOf (v : SliceView) (begins : List ℕ) (plays firsts : List (List ℕ)) (digits : List (List (Option ℕ))) (plain : Bool) : Type 0 where
  pub begins_are : AreBegins v.model v.slice (length (demanded_sets v.model)) begins
  pub plays_are : plays ≡ map (sets_in_play v.model v.slice) (param_numbers v.model)
  pub firsts_are : firsts ≡ map (firsts_of v.model v.slice) (param_numbers v.model)
  pub digits_are : digits ≡ map (digits_of v.model v.slice) (param_numbers v.model)
  pub plain_is : plain ≡ true → (p : ℕ) → p < length v.model.params → HasAllValues v.model v.slice p

-- the lists with a set added to that of a column, if there is one
abbrev pub with_set : Option ℕ → ℕ → List (List ℕ) → List (List ℕ)
with_set None set lists = lists
with_set (Some p) set lists = slice_set lists p (slice_index_or lists p [] ++ set ∷ [])
