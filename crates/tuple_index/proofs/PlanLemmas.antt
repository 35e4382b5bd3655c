-- What is made of the values and the sets of a model is its plan.
use Rattle.std.proofs.Common.{◌≡◌, ℕ, ◌<◌, ◌≤◌, ◌^◌, Bool, true, false, List, [], ◌∷◌, All, Some, None, map, length, sum, sum_by, ◌∙◌, refl, sym, subst, ap, arith}
use Rattle.std.specs.Prelude.{nat_lt}
use Rattle.std.specs.List.{AllByRecursion}
use Rattle.std.proofs.lemmas.Bool.Decides.{nat_tests}
use Rattle.std.proofs.lemmas.List.{get_or-map, length-map}
use Rattle.std.proofs.lemmas.List.Concat.{length-flat_map}
use Rattle.std.proofs.lemmas.List.FromFn.{length-map-range_with_len}
use Rattle.std.proofs.lemmas.List.Sums.{sum-map}
use Rattle.std.proofs.lemmas.Simd.{map-map}
use Rattle.cov_model.specs.believed.Sound.{ModelView, no_param, param_at}
use Rattle.cov_model.specs.believed.Slices.{positive_values}
use Rattle.cov_model.specs.believed.Valid.{param_numbers}
use Rattle.definitions.specs.believed.Demand.{choices, demanded_sets, demanded_tuples, rising, tuples_of}
use Rattle.tuple_index.specs.declared.fault.PlanFault.TheVariants.{TooManySets, TooManyTuples}
use Rattle.tuple_index.specs.Kept.{IsKept, of_values, with_sets}
use Rattle.tuple_index.specs.Places.{RisesFrom, tuple_count, tuple_lists}
use Rattle.tuple_index.specs.Plan.{PlanView, plan_of, tuple_cells}
use Rattle.tuple_index.specs.believed.PlanFault.{limit_passed, saturated}
use Rattle.tuple_index.specs.Signs.{values_of_sign}
use Rattle.value_text.proofs.ListLemmas.{map-get_or-range_with_len}
use Rattle.tuple_index.proofs.OrderLemmas.{demanded_rise, each_rises, few_in_order}
use Rattle.tuple_index.proofs.RankLemmas.{length-tuple_lists}
use Rattle.tuple_index.proofs.TupleLemmas.{tuples_of-lists}

same_plan : (a b : PlanView) → a.sets ≡ b.sets → a.sizes ≡ b.sizes → a.positives ≡ b.positives → a.negatives ≡ b.negatives → a ≡ b
same_plan a b sets sizes positives negatives =
    let first : List (List ℕ) → PlanView = λ x. record { sets = x; sizes = a.sizes; positives = a.positives; negatives = a.negatives } in
    let second : List ℕ → PlanView = λ x. record { sets = b.sets; sizes = x; positives = a.positives; negatives = a.negatives } in
    let third : List (List ℕ) → PlanView = λ x. record { sets = b.sets; sizes = b.sizes; positives = x; negatives = a.negatives } in
    let fourth : List (List ℕ) → PlanView = λ x. record { sets = b.sets; sizes = b.sizes; positives = b.positives; negatives = x } in
    ap first sets ∙ ap second sizes ∙ ap third positives ∙ ap fourth negatives

-- the values of one sign, parameter by parameter
by_sign : (negative : Bool) (m : ModelView)
    → map (λ p. values_of_sign negative (param_at m.params p).values) (param_numbers m) ≡ map (λ param. values_of_sign negative param.values) m.params
by_sign negative m =
    sym (map-map (λ param. values_of_sign negative param.values) (param_at m.params) (param_numbers m))
    ∙ ap (map (λ param. values_of_sign negative param.values)) (map-get_or-range_with_len m.params no_param)

pub same_values : (m : ModelView) (plan : PlanView) → plan.sets ≡ [] → plan.sizes ≡ []
    → plan.positives ≡ map (λ param. values_of_sign false param.values) m.params
    → plan.negatives ≡ map (λ param. values_of_sign true param.values) m.params → plan ≡ of_values (plan_of m)
same_values m plan sets sizes positives negatives =
    same_plan plan (of_values (plan_of m)) sets sizes (positives ∙ sym (by_sign false m)) (negatives ∙ sym (by_sign true m))

-- the tuples of the demanded sets are counted
counted : (m : ModelView) (set : List ℕ) → RisesFrom 0 (length m.params) set → tuple_count (plan_of m) set ≡ length (tuples_of m set)
counted m set rises =
    sym (length-tuple_lists (plan_of m) set)
    ∙ sym (length-map (tuple_lists (plan_of m) set) (tuple_cells m set))
    ∙ sym (ap length (tuples_of-lists m set rises))

each_counted : (m : ModelView) (sets : List (List ℕ)) → AllByRecursion (RisesFrom 0 (length m.params)) sets
    → map (tuple_count (plan_of m)) sets ≡ map (λ set. length (tuples_of m set)) sets
each_counted m [] rise = refl
each_counted m (set ∷ sets) rise =
    ap (λ n. n ∷ map (tuple_count (plan_of m)) sets) (counted m set rise.0) ∙ ap (λ ns. length (tuples_of m set) ∷ ns) (each_counted m sets rise.1)

sizes_counted : (m : ModelView) → map (tuple_count (plan_of m)) (demanded_sets m) ≡ map (λ set. length (tuples_of m set)) (demanded_sets m)
sizes_counted m = each_counted m (demanded_sets m) (each_rises m)

tuples_counted : (m : ModelView) (values : PlanView) (sets : List (List ℕ)) → values ≡ of_values (plan_of m) → sets ≡ demanded_sets m
    → sum_by (tuple_count values) sets ≡ length (demanded_tuples m)
tuples_counted m values sets same listed =
    ap (λ plan. sum_by (tuple_count plan) sets) same
    ∙ ap (sum_by (tuple_count (plan_of m))) listed
    ∙ sym (sum-map (tuple_count (plan_of m)) (demanded_sets m))
    ∙ ap sum (sizes_counted m)
    ∙ sum-map (λ set. length (tuples_of m set)) (demanded_sets m)
    ∙ sym (length-flat_map (tuples_of m) (demanded_sets m))

pub total_told : (m : ModelView) (values : PlanView) (sets : List (List ℕ)) (n : ℕ) → values ≡ of_values (plan_of m) → sets ≡ demanded_sets m
    → n ≡ saturated (sum_by (tuple_count values) sets) → n ≡ saturated (length (demanded_tuples m))
total_told m values sets n same listed is = is ∙ ap saturated (tuples_counted m values sets same listed)

-- with the demanded sets it is the plan
pub made_is : (m : ModelView) (values plan : PlanView) (sets : List (List ℕ)) → values ≡ of_values (plan_of m) → sets ≡ demanded_sets m
    → plan ≡ with_sets values sets → plan ≡ plan_of m
made_is m values plan sets same listed is =
    is ∙ ap (λ v. with_sets v sets) same ∙ ap (with_sets (of_values (plan_of m))) listed
    ∙ same_plan (with_sets (of_values (plan_of m)) (demanded_sets m)) (plan_of m) refl (sizes_counted m) refl refl

pub sets_rise : (m : ModelView) (values : PlanView) (sets : List (List ℕ)) → values ≡ of_values (plan_of m) → sets ≡ demanded_sets m
    → All (RisesFrom 0 (length values.positives)) sets
sets_rise m values sets same listed =
    let long : length values.positives ≡ length m.params = ap (λ v. length v.positives) same
    ∙ length-map-range_with_len (positive_values m) 0 (length m.params) in
    subst (λ n. All (RisesFrom 0 n) sets) (sym long) (subst (All (RisesFrom 0 (length m.params))) (sym listed) (demanded_rise m))

pub sets_few : (m : ModelView) (sets : List (List ℕ)) (n : ℕ) → n ≡ saturated (length (choices m)) → n ≤ 2 ^ 20 → sets ≡ demanded_sets m
    → length sets ≤ 2 ^ 20
sets_few m sets n is few listed =
    omega (arith, ap length listed, few_in_order (map (rising m) (choices m)), length-map (choices m) (rising m), is, few)

-- which limit is passed
pub sets_passed : (m : ModelView) (n : ℕ) → n ≡ saturated (length (choices m)) → 2 ^ 20 < n → limit_passed m ≡ Some (TooManySets n)
sets_passed m n is over =
    let past : 2 ^ 20 < length (choices m) = omega (arith, is, over) in
    let test : nat_lt (2 ^ 20) (length (choices m)) ≡ true = grind (arith, nat_tests) in
    rw test (ap (λ k. Some (TooManySets k)) (sym is))

pub tuples_passed : (m : ModelView) (n k : ℕ) → n ≡ saturated (length (choices m)) → n ≤ 2 ^ 20 → k ≡ saturated (length (demanded_tuples m)) → 2 ^ 26 < k
    → limit_passed m ≡ Some (TooManyTuples k)
tuples_passed m n k is few total over =
    let within : length (choices m) ≤ 2 ^ 20 = omega (arith, is, few) in
    let first : nat_lt (2 ^ 20) (length (choices m)) ≡ false = grind (arith, nat_tests) in
    let past : 2 ^ 26 < length (demanded_tuples m) = omega (arith, total, over) in
    let second : nat_lt (2 ^ 26) (length (demanded_tuples m)) ≡ true = grind (arith, nat_tests) in
    rw (first, second) (ap (λ j. Some (TooManyTuples j)) (sym total))

pub none_passed : (m : ModelView) (n k : ℕ) → n ≡ saturated (length (choices m)) → n ≤ 2 ^ 20 → k ≡ saturated (length (demanded_tuples m)) → k ≤ 2 ^ 26
    → limit_passed m ≡ None
none_passed m n k is few total most =
    let within : length (choices m) ≤ 2 ^ 20 = omega (arith, is, few) in
    let first : nat_lt (2 ^ 20) (length (choices m)) ≡ false = grind (arith, nat_tests) in
    let inside : length (demanded_tuples m) ≤ 2 ^ 26 = omega (arith, total, most) in
    let second : nat_lt (2 ^ 26) (length (demanded_tuples m)) ≡ false = grind (arith, nat_tests) in
    rw (first, second) refl

-- a plan with these sets keeps what a plan keeps
pub kept_with : (plan : PlanView) (sets : List (List ℕ)) → IsKept plan → All (RisesFrom 0 (length plan.positives)) sets → length sets ≤ 2 ^ 20
    → sum_by (tuple_count plan) sets ≤ 2 ^ 26 → IsKept (with_sets plan sets)
kept_with plan sets kept rise few_sets few_tuples = record {
  few = few_sets;
  as_many = length-map sets (tuple_count plan);
  within = omega (arith, sum-map (tuple_count plan) sets, few_tuples);
  both = kept.both;
  rising = rise;
  counted = λ i within. get_or-map (tuple_count plan) sets i [] 0 within;
}

-- the values of a plan with these sets and sizes
abbrev pub with_sizes : PlanView → List (List ℕ) → List ℕ → PlanView
with_sizes plan sets sizes = record { sets = sets; sizes = sizes; positives = plan.positives; negatives = plan.negatives }

pub sized_is : (own plan : PlanView) (sets : List (List ℕ)) (sizes : List ℕ) → own ≡ plan → sizes ≡ map (tuple_count plan) sets
    → with_sizes own sets sizes ≡ with_sets plan sets
sized_is own plan sets sizes same each =
    same_plan (with_sizes own sets sizes) (with_sets plan sets) refl each (ap (λ p. p.positives) same) (ap (λ p. p.negatives) same)
