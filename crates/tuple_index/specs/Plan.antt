-- What a plan tells of a model's demand, and the tuples as values of the members of a set.
use Rattle.std.specs.Prelude.{◌≡◌, ℕ, ◌+◌, ◌≤◌, Bool, true, false, ◌&&◌, ◌||◌, List, [], ◌∷◌, map, length, Option, Some, None, ◌==◌, slice_index_or, if◌then◌else◌}
use Rattle.cov_model.specs.believed.Sound.{ModelView}
use Rattle.cov_model.specs.believed.Valid.{param_numbers}
use Rattle.cov_model.specs.believed.Slices.{positive_values, negative_values}
use Rattle.definitions.specs.believed.Demand.{is_among, demanded_sets, tuples_of}

-- a plan: the demanded sets, the number of demanded tuples of each, and the numbers of the values of
-- each parameter that aren't negative, and of those that are
pub record PlanView : Type 0 where
  pub sets : List (List ℕ)
  pub sizes : List ℕ
  pub positives : List (List ℕ)
  pub negatives : List (List ℕ)

-- the plan of a model
abbrev pub plan_of : ModelView → PlanView
plan_of m = record {
  sets = demanded_sets m;
  sizes = map (λ set. length (tuples_of m set)) (demanded_sets m);
  positives = map (positive_values m) (param_numbers m);
  negatives = map (negative_values m) (param_numbers m);
}

-- a set of a plan
abbrev pub set_at : PlanView → ℕ → List ℕ
set_at plan set = slice_index_or plan.sets set []

-- the value of a parameter, where the members of a set have these values
abbrev pub value_given : List ℕ → List ℕ → ℕ → Option ℕ
value_given [] values p = None
value_given (q ∷ set) [] p = None
value_given (q ∷ set) (v ∷ values) p = if q == p then Some v else value_given set values p

-- the tuple of a set with these values
abbrev pub tuple_cells : ModelView → List ℕ → List ℕ → List (Option ℕ)
tuple_cells m set values = map (value_given set values) (param_numbers m)

-- the value is a negative one, or any one, of the parameter
abbrev pub is_negative : PlanView → ℕ → ℕ → Bool
is_negative plan p v = is_among (slice_index_or plan.negatives p []) v

abbrev pub is_value : PlanView → ℕ → ℕ → Bool
is_value plan p v = is_among (slice_index_or plan.positives p []) v || is_negative plan p v

-- there is a value for each member of the set, and each is one of its parameter
abbrev pub are_values : PlanView → List ℕ → List ℕ → Bool
are_values plan [] [] = true
are_values plan [] (v ∷ values) = false
are_values plan (p ∷ set) [] = false
are_values plan (p ∷ set) (v ∷ values) = is_value plan p v && are_values plan set values

-- how many of the values are negative
abbrev pub negative_count : PlanView → List ℕ → List ℕ → ℕ
negative_count plan [] values = 0
negative_count plan (p ∷ set) [] = 0
negative_count plan (p ∷ set) (v ∷ values) = (if is_negative plan p v then 1 else 0) + negative_count plan set values

-- the values make a demanded tuple of the set: they exist, and at most one is negative
pub record IsChoice (plan : PlanView) (set values : List ℕ) : Type 0 where
  pub exist : are_values plan set values ≡ true
  pub few : negative_count plan set values ≤ 1
