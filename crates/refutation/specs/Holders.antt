-- For each pair of a parameter and a value the numbers of the omissions whose tuples end with it. (This project's
-- rule.)
use Rattle.std.specs.Prelude.{◌≡◌, ℕ, ◌+◌, ◌-◌, ◌^◌, ◌<◌, ◌≤◌, true, List, [], ◌∷◌, Option, Some, All, length, slice_get, slice_index_or}
use Rattle.cov_model.specs.Tuples.{IsRising}
use Rattle.definitions.specs.believed.Demand.{is_among}
use Rattle.refutation.specs.declared.omissions.Omission.{Omission}

-- the numbers of a pair
abbrev pub numbers_at : List (List (List ℕ)) → ℕ → ℕ → List ℕ
numbers_at lists p v = slice_index_or (slice_index_or lists p []) v []

-- the last pair
abbrev pub last_pair : List (ℕ × ℕ) → Option (ℕ × ℕ)
last_pair pairs = slice_get pairs (length pairs - 1)

-- the parameters of the pairs rise, and the last one, which there is, is below a number
pub record EndsWithin (n : ℕ) (pairs : List (ℕ × ℕ)) : Type 0 where
  pub rising : IsRising pairs
  pub last : ℕ × ℕ
  pub is_last : last_pair pairs ≡ Some last
  pub below : last.0 < n

-- no number is greater than a later one
abbrev pub NeverFalls : List ℕ → Type 0
NeverFalls [] = Unit {0}
NeverFalls (k ∷ numbers) = ((later : ℕ) → is_among numbers later ≡ true → k ≤ later) × NeverFalls numbers

-- nor than this one
pub record EndsBelow (most : ℕ) (numbers : List ℕ) : Type 0 where
  pub rising : NeverFalls numbers
  pub below : (k : ℕ) → is_among numbers k ≡ true → k ≤ most

-- a number that isn't less than the others was added to some of the lists
pub record Adds (number : ℕ) (old new : List (List (List ℕ))) : Type 0 where
  pub kept : (p v k : ℕ) → is_among (numbers_at old p v) k ≡ true → is_among (numbers_at new p v) k ≡ true
  pub ends : (p v : ℕ) → EndsBelow number (numbers_at old p v) → EndsBelow number (numbers_at new p v)

-- each omission whose tuple ends with the pair is among the numbers
abbrev pub ListsEnding : List Omission → ℕ → ℕ → List ℕ → Type 0
ListsEnding omissions p v numbers =
    (i : ℕ) (d : Omission) → i < length omissions → last_pair (slice_index_or omissions i d).tuple ≡ Some (p, v) → is_among numbers (i + 1) ≡ true

-- so it is for each pair, and of a model with so many parameters each tuple is; the number of an omission for which
-- there was no room may be left
pub record AreHolders (omissions : List Omission) (lists : List (List (List ℕ))) (width : ℕ) : Type 0 where
  pub ends : (p v : ℕ) → EndsBelow (length omissions + 1) (numbers_at lists p v)
  pub each : (p v : ℕ) → ListsEnding omissions p v (numbers_at lists p v)
  pub within : (n : ℕ) → n < 2 ^ 16 → width ≤ n → All (λ omission. EndsWithin n omission.tuple) omissions
