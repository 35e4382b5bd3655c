-- The tuple of a set that cells contain, as a number in mixed radix: the digits are the places of the
-- members' values among the values of the slice.
use Rattle.std.specs.Prelude.{◌≡◌, ◌<◌, ℕ, Bool, not, ◌+◌, ◌*◌, List, [], ◌∷◌, length, Option, Some, None, ◌==◌, nat_lt, option_and_then, slice_index_or, if◌then◌else◌}
use Rattle.cov_model.specs.declared.slice.Slice.{Slice}
use Rattle.cov_model.specs.declared.slice.Slice.TheVariants.{Positive, Negative}
use Rattle.cov_model.specs.believed.Sound.{ModelView, param_at}
use Rattle.cov_model.specs.believed.Meaning.{value_at}
use Rattle.tuple_index.specs.Plan.{plan_of}
use Rattle.tuple_index.specs.Places.{place_of, values_in, ways}

-- the values of each parameter in a slice of a model
abbrev pub own_values : ModelView → Slice → ℕ → List ℕ
own_values m slice p = values_in (plan_of m) slice p

-- the digit of a value, where it is one of these values
abbrev pub digit_of : List ℕ → ℕ → Option ℕ
digit_of values v = if nat_lt (place_of values v) (length values) then Some (place_of values v) else None

-- each value of a parameter is one of the slice, and so its own digit
abbrev pub HasAllValues : ModelView → Slice → ℕ → Type 0
HasAllValues m slice p = (v : ℕ) → v < length (param_at m.params p).values → digit_of (own_values m slice p) v ≡ Some v

-- the digit of the value that cells give a parameter
abbrev pub cell_digit : (ℕ → List ℕ) → List (Option ℕ) → ℕ → Option ℕ
cell_digit values cells p = option_and_then (digit_of (values p)) (slice_index_or cells p None)

-- the digits with this one in a column
abbrev pub with_digit : (ℕ → Option ℕ) → ℕ → ℕ → ℕ → Option ℕ
with_digit digits column d p = if p == column then Some d else digits p

-- a number with one more digit before it, where both are there
abbrev pub joined : Option ℕ → ℕ → Option ℕ → Option ℕ
joined None weight number = None
joined (Some d) weight None = None
joined (Some d) weight (Some n) = Some (d * weight + n)

-- the number that the digits of the members make, where each has one
abbrev pub number_of : (ℕ → List ℕ) → (ℕ → Option ℕ) → List ℕ → Option ℕ
number_of values digits [] = Some 0
number_of values digits (p ∷ set) = joined (digits p) (ways values set) (number_of values digits set)

-- how far the numbers are apart for two neighbouring digits of a column
abbrev pub step_of : (ℕ → List ℕ) → ℕ → List ℕ → ℕ
step_of values column [] = 0
step_of values column (p ∷ set) = if p == column then ways values set else step_of values column set

-- whether a value of a parameter is one of the slice
abbrev pub is_own : ModelView → Slice → ℕ → ℕ → Bool
is_own m Positive p v = not (value_at m p v).negative
is_own m (Negative q w) p v = if p == q then v == w else not (value_at m p v).negative

-- each digit is below the number of its parameter's values
abbrev pub AreDigits : (ℕ → List ℕ) → (ℕ → Option ℕ) → Type 0
AreDigits values digits = (p d : ℕ) → digits p ≡ Some d → d < length (values p)
