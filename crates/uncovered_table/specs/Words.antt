-- Bits of words, 64 to a word.
use Rattle.std.specs.Prelude.{◌≡◌, ℕ, zero, suc, ◌+◌, ◌/◌, ◌%◌, ◌<◌, ◌≤◌, List, length, min, slice_index, slice_index_or}
use Rattle.std.specs.Int.{bit_at}

-- a bit: 1 where it is set
abbrev pub bit_in : List ℕ → ℕ → ℕ
bit_in words k = bit_at (slice_index words (k / 64)) (k % 64)

-- 1 where both have it
abbrev pub common : List ℕ → List ℕ → ℕ → ℕ
common words mask k = min (bit_in words k) (bit_in mask k)

-- the sum of a function over the numbers below one
abbrev pub sum_to : (ℕ → ℕ) → ℕ → ℕ
sum_to f zero = 0
sum_to f (suc n) = sum_to f n + f n

-- numbers to each of which that of its place was added
pub record AreRaised (added : ℕ → ℕ) (old new : List ℕ) : Type 0 where
  pub long : length new ≡ length old
  pub each : (i : ℕ) → i < length old → slice_index_or new i 0 ≡ slice_index_or old i 0 + added i

-- counts of which the first ones were raised by that of their place, and the others by 1 at most
pub record AreCounted (added : ℕ → ℕ) (count : ℕ) (old new : List ℕ) : Type 0 where
  pub long : length new ≡ length old
  pub each : (i : ℕ) → i < count → slice_index_or new i 0 ≡ slice_index_or old i 0 + added i
  pub most : (i : ℕ) → i < length old → slice_index_or new i 0 ≤ slice_index_or old i 0 + 1
