-- Growth meets no more tuples in the slices of a model than its plan has.
use Rattle.std.proofs.Common.{◌≡◌, ℕ, suc, ◌≤◌, Bool, true, List, [], ◌∷◌, length, sum, sum_by, Option, ap, refl, arith}
use Rattle.std.proofs.lemmas.List.Sums.{sum-map}
use Rattle.cov_model.specs.declared.slice.Slice.{Slice}
use Rattle.cov_model.specs.believed.Slices.{slices}
use Rattle.cov_model.specs.believed.Sound.{ModelView}
use Rattle.definitions.specs.believed.Demand.{demanded_sets, tuples_in, tuples_of}
use Rattle.definitions.proofs.Finishing.{met_in}
use Rattle.definitions.proofs.InPlay.{few_met}
use Rattle.definitions.proofs.Totals.{count, count_flat, sum_less, sum_same, sum_swap}
use Rattle.tuple_index.specs.Plan.{plan_of}
use Rattle.ipog_grow.specs.Omissions.{met_count}

abbrev any : List (Option ℕ) → Bool
any tuple = true

count-any : (tuples : List (List (Option ℕ))) → count any tuples ≡ length tuples
count-any [] = refl
count-any (tuple ∷ tuples) = ap suc (count-any tuples)

pub few_in_slices : (m : ModelView) → sum_by (met_count m) (slices m) ≤ sum (plan_of m).sizes
few_in_slices m =
    let sets = demanded_sets m in
    let in_set : Slice → List ℕ → ℕ = λ slice set. count any (tuples_in m set slice) in
    let least = sum_less (met_count m) (λ slice. sum_by (in_set slice) sets) (slices m)
    (λ slice has. omega (arith, count-any (met_in m slice), few_met m slice any)) in
    let swapped = sum_swap in_set (slices m) sets in
    let by_set = sum_same (λ set. sum_by (λ slice. in_set slice set) (slices m)) (λ set. length (tuples_of m set)) sets
    (λ set. omega (arith, count_flat any (tuples_in m set) (slices m), count-any (tuples_of m set))) in
    omega (arith, least, swapped, by_set, sum-map (λ set. length (tuples_of m set)) sets)
