-- Parameters with a safe value: each constraint that names the parameter holds by it alone. (This project's rule.)
use Rattle.std.specs.Prelude.{◌≡◌, ℕ, suc, true, List, [], length, All, slice_index_or}
use Rattle.std.specs.List.{sum_by}
use Rattle.definitions.specs.believed.Demand.{is_among}
use Rattle.feasibility.specs.declared.constrained.Constrained.{Constrained}

-- one of the values of a parameter leaves none of the constraints that name it undecided
pub record HasSafeValue (named : Constrained) (values : List ℕ) : Type 0 where
  pub value : ℕ
  pub listed : is_among values value ≡ true
  pub safe : slice_index_or named.undecided value [] ≡ []

-- so it is of each of these parameters, and the number is one more than that of their values
pub record AreSafe (entries : List Constrained) (lists : List (List ℕ)) (most : ℕ) : Type 0 where
  pub each : All (λ named. HasSafeValue named (slice_index_or lists named.param [])) entries
  pub sum : most ≡ suc (sum_by (λ named. length (slice_index_or lists named.param [])) entries)
