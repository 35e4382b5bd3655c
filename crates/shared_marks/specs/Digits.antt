-- The values of a valid row as digits of numbers in mixed radix: the place of a value among those of its
-- parameter in the row's slice, and how many these are.
use Rattle.std.specs.Prelude.{◌≡◌, ℕ, Bool, false, ◌+◌, ◌*◌, ◌<◌, ◌≤◌, ◌==◌, List, length, drop, map, Option, slice_index_or}
use Rattle.cov_model.specs.declared.slice.Slice.{Slice}
use Rattle.cov_model.specs.declared.slice.Slice.TheVariants.{Positive, Negative}
use Rattle.cov_model.specs.believed.Rows.{value_in}
use Rattle.cov_model.specs.believed.Slices.{slice_of}
use Rattle.cov_model.specs.believed.Sound.{ModelView}
use Rattle.tuple_index.specs.Places.{place, place_of, values_in, ways}
use Rattle.tuple_index.specs.Plan.{plan_of}
use Rattle.shared_marks.specs.declared.digits.Digit.{Digit}

-- whether a slice leaves a parameter one value alone, its negative one
abbrev pub is_fixed : Slice → ℕ → Bool
is_fixed Positive p = false
is_fixed (Negative q v) p = p == q

-- the values of each parameter in the slice of a row
abbrev pub own_slice : ModelView → List (Option ℕ) → ℕ → List ℕ
own_slice m row = values_in (plan_of m) (slice_of m row)

pub record IsDigit (m : ModelView) (row : List (Option ℕ)) (p : ℕ) (digit : Digit) : Type 0 where
  pub place : digit.place ≡ place_of (own_slice m row p) (value_in row p)
  pub radix : digit.radix ≡ length (own_slice m row p)

-- those of the first parameters
pub record ArePut (m : ModelView) (row : List (Option ℕ)) (count : ℕ) (digits : List Digit) : Type 0 where
  pub room : length digits ≡ 256
  pub each : (p : ℕ) (other : Digit) → p < count → IsDigit m row p (slice_index_or digits p other)

abbrev pub AreDigits : ModelView → List (Option ℕ) → List Digit → Type 0
AreDigits m row digits = ArePut m row (length m.params) digits × (length m.params ≤ 256)

-- the place of some members' values, of which the first ones make a number
abbrev pub IsPlacing : (ℕ → List ℕ) → List (Option ℕ) → List ℕ → ℕ → ℕ → Type 0
IsPlacing values row members i number =
    number * ways values (drop i members) + place values (drop i members) (map (value_in row) (drop i members))
    ≡ place values members (map (value_in row) members)
