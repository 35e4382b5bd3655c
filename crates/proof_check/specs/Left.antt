-- Which demanded tuples a proof leaves: those that no omission lists. Each is told by its place. (This project's rule.)
use Rattle.std.specs.Prelude.{◌≡◌, ◌≢◌, ℕ, ◌+◌, ◌<◌, ◌≤◌, ◌==◌, Bool, true, false, ◌&&◌, not, List, [], ◌∷◌, length, Option, Some, slice_get, slice_index_or}
use Rattle.std.specs.Int.{bit_at}
use Rattle.std.specs.List.{list_any}
use Rattle.cov_model.specs.believed.Sound.{ModelView}
use Rattle.definitions.specs.believed.Demand.{demanded_tuples}
use Rattle.definitions.specs.believed.Seeds.{is_same_row}
use Rattle.refutation.specs.Checking.{tuples_of}
use Rattle.refutation.specs.declared.omissions.Omission.{Omission}

-- the demanded tuple at a place
abbrev pub IsPlaceOf : ModelView → List (Option ℕ) → ℕ → Type 0
IsPlaceOf m tuple place = slice_get (demanded_tuples m) place ≡ Some tuple

-- the tuple isn't demanded
abbrev pub LacksPlace : ModelView → List (Option ℕ) → Type 0
LacksPlace m tuple = (place : ℕ) → slice_get (demanded_tuples m) place ≢ Some tuple

-- of marks on the demanded tuples that of one tuple is taken away, if it is demanded
pub record Clears (m : ModelView) (tuple : List (Option ℕ)) (before after : List Bool) : Type 0 where
  pub as_many : length after ≡ length before
  pub marks : (place : ℕ) (other : List (Option ℕ)) → IsPlaceOf m other place
      → slice_index_or after place false ≡ (slice_index_or before place false && not (is_same_row other tuple))

-- there is a mark for each demanded tuple, and it is set if no omission lists the tuple
pub record AreLeft (m : ModelView) (omissions : List Omission) (left : List Bool) : Type 0 where
  pub as_many : length left ≡ length (demanded_tuples m)
  pub marks : (place : ℕ) (tuple : List (Option ℕ)) → IsPlaceOf m tuple place
      → slice_index_or left place false ≡ not (list_any (is_same_row tuple) (tuples_of m omissions))

-- no place before another is left and not served
abbrev pub NoneLeft : List Bool → List Bool → ℕ → Type 0
NoneLeft left served to = (place : ℕ) → place < to → (slice_index_or left place false && not (slice_index_or served place false)) ≡ false

-- the first place that is left and not served
pub record IsFirstLeft (left served : List Bool) (place : ℕ) : Type 0 where
  pub within : place < length left
  pub unserved : (slice_index_or left place false && not (slice_index_or served place false)) ≡ true
  pub none_before : NoneLeft left served place

-- the lowest bits of a word tell which of so many neighbouring places, from a given one on, are left and not served; its
-- other bits are 0
pub record AreUnservedFrom (left served : List Bool) (from count word : ℕ) : Type 0 where
  pub each : (i : ℕ) → i < count → (bit_at word i == 1) ≡ (slice_index_or left (from + i) false && not (slice_index_or served (from + i) false))
  pub no_other : (i : ℕ) → count ≤ i → bit_at word i ≡ 0

-- the pairs of the members of a set with these values
abbrev pub pairs_with : List ℕ → List ℕ → List (ℕ × ℕ)
pairs_with [] values = []
pairs_with (p ∷ set) [] = []
pairs_with (p ∷ set) (v ∷ values) = (p, v) ∷ pairs_with set values
