-- Marks on places numbered from 0, as the list of the marks.
use Rattle.std.specs.Prelude.{◌≡◌, ℕ, ◌+◌, ◌<◌, ◌≤◌, Bool, true, false, List, slice_index_or, if◌then◌else◌}
use Rattle.std.specs.Int.{bit_at}

-- no place at or above the first bound and below the second is marked
abbrev pub NoneSet : List Bool → ℕ → ℕ → Type 0
NoneSet marks from to = (place : ℕ) → from ≤ place → place < to → slice_index_or marks place false ≡ false

-- the place is the first marked one at or above the first bound, and it is below the second
pub record IsFirstSet (marks : List Bool) (from to place : ℕ) : Type 0 where
  pub lowest : from ≤ place
  pub below : place < to
  pub marked : slice_index_or marks place false ≡ true
  pub none_before : NoneSet marks from place

-- a word has the marks of so many neighbouring places, from a given one on, as its lowest bits, and no other bit
pub record AreMarksFrom (marks : List Bool) (from count word : ℕ) : Type 0 where
  pub each : (i : ℕ) → i < count → bit_at word i ≡ (if slice_index_or marks (from + i) false then 1 else 0)
  pub no_other : (i : ℕ) → count ≤ i → bit_at word i ≡ 0
