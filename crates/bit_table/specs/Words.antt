-- Marks as the bits of words, 64 to a word.
use Rattle.std.specs.Prelude.{◌≡◌, ℕ, ◌+◌, ◌-◌, ◌<◌, ◌≤◌, ◌/◌, ◌%◌, Bool, List, map, ◌==◌, slice_index}
use Rattle.std.specs.Int.{bit_at}
use Rattle.std.specs.List.{range_with_len}

-- the mark of a place is its bit
abbrev pub mark_at : List ℕ → ℕ → Bool
mark_at words place = bit_at (slice_index words (place / 64)) (place % 64) == 1

-- the marks of the places below a number
abbrev pub marks_of : List ℕ → ℕ → List Bool
marks_of words size = map (mark_at words) (range_with_len 0 size)

-- a number of bits of two neighbouring words, from a bit of the first on
pub record AreBits (low high bit count word : ℕ) : Type 0 where
  pub below : (i : ℕ) → i < count → bit + i < 64 → bit_at word i ≡ bit_at low (bit + i)
  pub above : (i : ℕ) → i < count → 64 ≤ bit + i → bit_at word i ≡ bit_at high (bit + i - 64)
