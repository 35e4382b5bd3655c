-- Which demanded tuples rows serve, each told by its place among all demanded tuples: the number of those of
-- the sets before, and its rank. (This project's rule.)
use Rattle.std.specs.Prelude.{◌≡◌, ℕ, ◌+◌, ◌<◌, Bool, false, ◌&&◌, List, length, Option, Some, None, ◌==◌, nat_le, nat_lt, slice_get, sum, take, IfSome}
use Rattle.std.specs.Option.{option_map_or}
use Rattle.cov_model.specs.believed.Sound.{ModelView}
use Rattle.cov_model.specs.believed.Valid.{serves}
use Rattle.definitions.specs.believed.Demand.{demanded_sets, demanded_tuples, tuples_of}
use Rattle.definitions.specs.believed.Figures.{is_served, tests_of}
use Rattle.tuple_index.specs.Plan.{plan_of, set_at}

-- whether one of the rows that is a test serves the demanded tuple at a place
abbrev pub is_served_at : ModelView → List (List (Option ℕ)) → ℕ → Bool
is_served_at m rows place = option_map_or (is_served m (tests_of m rows)) (slice_get (demanded_tuples m) place) false

-- the base of a set: how many demanded tuples the sets before it have
abbrev pub base_of : ModelView → ℕ → ℕ
base_of m set = sum (take set (plan_of m).sizes)

-- the tuple at the place that is the base of a set and a rank is the set's tuple of this rank
abbrev pub PlacesAreRanks : Type 0
PlacesAreRanks = (m : ModelView) (set rank : ℕ) → set < length (demanded_sets m) → rank < length (tuples_of m (set_at (plan_of m) set))
    → slice_get (demanded_tuples m) (base_of m set + rank) ≡ slice_get (tuples_of m (set_at (plan_of m) set)) rank

-- whether the place is at or above the first bound and below the second, and the rows serve its tuple
abbrev pub served_between : ModelView → List (List (Option ℕ)) → ℕ → ℕ → ℕ → Bool
served_between m rows from to place = (nat_le from place && nat_lt place to) && is_served_at m rows place

-- whether a rank is this one
abbrev pub is_rank : Option ℕ → ℕ → Bool
is_rank None rank = false
is_rank (Some k) rank = k == rank

-- the rank of the one demanded tuple of a set that a row serves, or none
pub record IsServedRank (m : ModelView) (set : List ℕ) (row : List (Option ℕ)) (found : Option ℕ) : Type 0 where
  pub within : IfSome found (λ rank. rank < length (tuples_of m set))
  pub served : (rank : ℕ) (tuple : List (Option ℕ)) → slice_get (tuples_of m set) rank ≡ Some tuple → serves m row tuple ≡ is_rank found rank
