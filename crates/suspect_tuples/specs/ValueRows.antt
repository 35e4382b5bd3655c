-- The rows that give a parameter a value, as they are kept. (How this program finds the smallest suspicious tuples; no
-- public clause speaks of it.)
use Rattle.std.specs.Prelude.{◌≡◌, ℕ, ◌<◌, ◌==◌, ◌&&◌, Bool, true, false, List, [], ◌∷◌, All, Option, Some, None, length, nat_lt, slice_get, slice_index_or}
use Rattle.bit_table.specs.Words.{mark_at}
use Rattle.definitions.specs.believed.Demand.{is_among}
use Rattle.suspect_tuples.specs.RowBits.{MarkHaving, has_at}
use Rattle.suspect_tuples.specs.declared.value_rows.ValueRows.{ValueRows}
use Rattle.suspect_tuples.specs.declared.value_rows.ValueRows.TheVariants.{Few, Many}

-- whether a cell has this value
abbrev pub is_value : Option ℕ → ℕ → Bool
is_value None v = false
is_value (Some w) v = w == v

-- lists for each value of a parameter that has so many: the numbers of those rows before one that give it
pub record AreNumbers (rows : List (List (Option ℕ))) (param count upto : ℕ) (lists : List (List ℕ)) : Type 0 where
  pub long : length lists ≡ count
  pub before : (v : ℕ) → v < count → All (λ number. number < upto) (slice_index_or lists v [])
  pub each : (v at : ℕ) → v < count → is_among (slice_index_or lists v []) at ≡ (nat_lt at upto && has_at rows ((param, v) ∷ []) at)

-- exactly the rows of these numbers are kept
abbrev pub KeepsNumbers : List ℕ → ValueRows → Type 0
KeepsNumbers numbers (Few list) = list.items ≡ numbers
KeepsNumbers numbers (Many words) = (at : ℕ) → mark_at words at ≡ is_among numbers at

-- exactly those that contain the tuple
abbrev pub KeepsHaving : List (List (Option ℕ)) → List (ℕ × ℕ) → ValueRows → Type 0
KeepsHaving rows tuple (Few list) = (at : ℕ) → is_among list.items at ≡ has_at rows tuple at
KeepsHaving rows tuple (Many words) = MarkHaving rows tuple words

-- for each value of a parameter that has so many
pub record AreValueRows (rows : List (List (Option ℕ))) (param count : ℕ) (sets : List ValueRows) : Type 0 where
  pub long : length sets ≡ count
  pub each : (v : ℕ) (other : ValueRows) → v < count → KeepsHaving rows ((param, v) ∷ []) (slice_index_or sets v other)

-- the rows that are kept for a pair; there are none where no row gives its parameter its value
abbrev pub rows_of : List (List ValueRows) → ℕ × ℕ → Option ValueRows
rows_of giving pair = slice_get (slice_index_or giving pair.0 []) pair.1

abbrev pub KeepsPair : List (List (Option ℕ)) → ℕ × ℕ → Option ValueRows → Type 0
KeepsPair rows pair None = (at : ℕ) → has_at rows (pair ∷ []) at ≡ false
KeepsPair rows pair (Some kept) = KeepsHaving rows (pair ∷ []) kept

-- those of all pairs
abbrev pub AreGiven : List (List (Option ℕ)) → List (List ValueRows) → Type 0
AreGiven rows giving = (pair : ℕ × ℕ) → KeepsPair rows pair (rows_of giving pair)

-- the words of a pair that many rows have
abbrev pub is_many : Option ValueRows → Bool
is_many (Some (Many words)) = true
is_many other = false

abbrev pub words_in : Option ValueRows → List ℕ
words_in (Some (Many words)) = words
words_in other = []

abbrev pub AreMany : List (List ValueRows) → List (ℕ × ℕ) → Type 0
AreMany giving tuple = All (λ pair. is_many (rows_of giving pair) ≡ true) tuple
