-- Lines that were prepared for a column. (This project's rules.)
use Rattle.std.specs.Prelude.{◌≡◌, ◌⊎◌, ℕ, Bool, ◌+◌, ◌<◌, ◌≤◌, All, length, slice_range, take, drop, ◌++◌, List, [], ◌∷◌, Option, Some, None, ◌==◌, slice_index_or, if◌then◌else◌}
use Rattle.bit_table.specs.Marks.{NoneSet}
use Rattle.cov_model.specs.declared.slice.Slice.{Slice}
use Rattle.cov_model.specs.believed.Sound.{ModelView}
use Rattle.uncovered_table.specs.declared.prepared.Part.{Part}
use Rattle.uncovered_table.specs.declared.prepared.Prepared.{Prepared}
use Rattle.uncovered_table.specs.declared.prepared.ColumnLines.{ColumnLines}
use Rattle.uncovered_table.specs.Bits.{first_bit, sets_in_play, tuple_count}
use Rattle.uncovered_table.specs.Digits.{joined, number_of, own_values, step_of, with_digit}
use Rattle.uncovered_table.specs.Places.{set_at}

-- a digit as a plain number, where one number stands for none
abbrev pub coded : ℕ → Option ℕ
coded code = if code == 65535 then None else Some code

abbrev pub digit_in : List ℕ → ℕ → Option ℕ
digit_in digits p = coded (slice_index_or digits p 65535)

-- the digits times their weights, where each is there
abbrev pub sum_of : (ℕ → Option ℕ) → List Part → Option ℕ
sum_of digits [] = Some 0
sum_of digits (part ∷ parts) = joined (digits part.param) part.weight (sum_of digits parts)

-- a prepared line: the set's first bit and step, and its other members by their weights
pub record IsLineOf (m : ModelView) (slice : Slice) (column set : ℕ) (line : Prepared) (parts : List Part) : Type 0 where
  pub order : line.begin ≤ line.end
  pub within : line.end ≤ length parts
  pub few : line.end ≤ line.begin + 256
  pub first : line.first ≡ first_bit m slice set
  pub step : line.step ≡ step_of (own_values m slice) column (set_at m set)
  pub sums : (digits : ℕ → Option ℕ) → sum_of digits (slice_range parts line.begin line.end) ≡ number_of (own_values m slice) (with_digit digits column 0) (set_at m set)

-- the prepared lines of some sets, in order
pub record AreLines (m : ModelView) (slice : Slice) (column : ℕ) (sets : List ℕ) (lines : List Prepared) (parts : List Part) : Type 0 where
  pub many : length lines ≡ length sets
  pub exist : All (λ part. part.param < length m.params) parts
  pub each : (k d : ℕ) (other : Prepared) → k < length sets → IsLineOf m slice column (slice_index_or sets k d) (slice_index_or lines k other) parts

-- those of the sets that are ready for a column
abbrev pub AreLinesOf : ModelView → Slice → ℕ → ColumnLines → Type 0
AreLinesOf m slice column made = AreLines m slice column made.sets.items made.lines.items made.parts.items

-- no tuple of the set is open
abbrev pub IsComplete : ModelView → Slice → List Bool → ℕ → Type 0
IsComplete m slice bits set = NoneSet bits (first_bit m slice set) (first_bit m slice set + tuple_count m slice set)

-- the second list is the first one, in order, without some numbers that are done
abbrev pub IsLeft : (ℕ → Type 0) → List ℕ → List ℕ → Type 0
IsLeft IsDone [] [] = Unit {0}
IsLeft IsDone [] (y ∷ ys) = ⊥
IsLeft IsDone (x ∷ xs) [] = IsDone x × IsLeft IsDone xs []
IsLeft IsDone (x ∷ xs) (y ∷ ys) = ((x ≡ y) × IsLeft IsDone xs ys) ⊎ (IsDone x × IsLeft IsDone xs (y ∷ ys))

-- what is ready for a column: the lines of its sets in play, without some that are complete
pub record AreReady (m : ModelView) (slice : Slice) (bits : List Bool) (column : ℕ) (made : ColumnLines) : Type 0 where
  pub lines : AreLinesOf m slice column made
  pub left : IsLeft (IsComplete m slice bits) (sets_in_play m slice column) made.sets.items

-- the parts with one more, unless it is the column
abbrev pub with_part : ℕ → ℕ → ℕ → List Part → List Part
with_part p column weight parts = if p == column then parts else parts ++ (record { param = p; weight = weight }) ∷ []

-- the parts of a set stand behind others
pub record ArePushed (m : ModelView) (slice : Slice) (column set : ℕ) (before parts : List Part) : Type 0 where
  pub kept : take (length before) parts ≡ before
  pub least : length before ≤ length parts
  pub few : length parts ≤ length before + 256
  pub exist : All (λ part. part.param < length m.params) before → All (λ part. part.param < length m.params) parts
  pub sums : (digits : ℕ → Option ℕ) → sum_of digits (drop (length before) parts) ≡ number_of (own_values m slice) (with_digit digits column 0) (set_at m set)
