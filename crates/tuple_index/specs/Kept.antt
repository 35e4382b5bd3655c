-- What a plan keeps of its parts.
use Rattle.std.specs.Prelude.{◌≡◌, ℕ, ◌^◌, ◌<◌, ◌≤◌, List, [], map, length, take, sum, All, slice_index_or}
use Rattle.tuple_index.specs.Plan.{PlanView, set_at}
use Rattle.tuple_index.specs.Places.{RisesFrom, tuple_count}

-- a plan of the same values, with no set, and with these sets
abbrev pub of_values : PlanView → PlanView
of_values plan = record { sets = []; sizes = []; positives = plan.positives; negatives = plan.negatives }

abbrev pub with_sets : PlanView → List (List ℕ) → PlanView
with_sets plan sets = record { sets = sets; sizes = map (tuple_count plan) sets; positives = plan.positives; negatives = plan.negatives }

-- the bases are the sums of the sizes before
pub record AreBases (sizes bases : List ℕ) : Type 0 where
  pub as_many : length bases ≡ length sizes
  pub sums : (i : ℕ) → i < length sizes → slice_index_or bases i 0 ≡ sum (take i sizes)

-- the sets rise and their members exist, and the sizes are the numbers of tuples, within the limits
pub record IsKept (plan : PlanView) : Type 0 where
  pub few : length plan.sets ≤ 2 ^ 20
  pub as_many : length plan.sizes ≡ length plan.sets
  pub within : sum plan.sizes ≤ 2 ^ 26
  pub both : length plan.negatives ≡ length plan.positives
  pub rising : All (RisesFrom 0 (length plan.positives)) plan.sets
  pub counted : (i : ℕ) → i < length plan.sets → slice_index_or plan.sizes i 0 ≡ tuple_count plan (set_at plan i)
