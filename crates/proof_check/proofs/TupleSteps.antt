-- The tuple at a place: the pairs of its set's members with its values.
use Rattle.std.proofs.Common.{◌≡◌, ℕ, zero, suc, ◌+◌, ◌-◌, ◌<◌, ◌≤◌, Bool, cond, List, [], ◌∷◌, ◌++◌, map, length, drop, take, get_or, Option, Some, None, inl, inr, ◌∙◌, refl, sym, ap, subst, arith}
use Rattle.std.specs.Prelude.{All, slice_get, sum}
use Rattle.std.specs.List.{range_with_len}
use Rattle.std.proofs.lemmas.Bool.{cases_eq, eq-eqb, ne_eqb}
use Rattle.std.proofs.lemmas.List.{append-nil, drop_all, get_or-map}
use Rattle.cov_model.specs.believed.Sound.{ModelView}
use Rattle.definitions.specs.believed.Pairs.{pairs_from, pairs_of}
use Rattle.tuple_index.specs.Plan.{IsChoice, PlanView, plan_of, set_at, tuple_cells, value_given}
use Rattle.tuple_index.proofs.RankLemmas.{choice_long}
use Rattle.cov_model.specs.believed.Slices.{positive_values}
use Rattle.definitions.specs.believed.Demand.{demanded_sets, demanded_tuples, tuples_of}
use Rattle.std.proofs.lemmas.Option.{same_Some, slice_get-get_or}
use Rattle.std.proofs.lemmas.List.FromFn.{length-map-range_with_len}
use Rattle.cov_model.specs.Tuples.{IsRising}
use Rattle.tuple_index.specs.Places.{RisesFrom}
use Rattle.shared_marks.specs.Served.{base_of}
use Rattle.shared_marks.proofs.PlaceLemmas.{tuple_there}
use Rattle.proof_check.specs.Left.{pairs_with}

-- the pairs so far, with those that are left
abbrev pub AreSoFar : List ℕ → List ℕ → ℕ → List (ℕ × ℕ) → Type 0
AreSoFar set values i pairs = pairs ++ pairs_with (drop i set) (drop i values) ≡ pairs_with set values

pub so_far-all : (set values : List ℕ) (i : ℕ) (pairs : List (ℕ × ℕ)) → length set ≤ i → AreSoFar set values i pairs → pairs ≡ pairs_with set values
so_far-all set values i pairs past so_far =
    sym (append-nil pairs) ∙ sym (ap (λ members. pairs ++ pairs_with members (drop i values)) (drop_all i set past)) ∙ so_far

-- the pairs of a rising set rise
pub pairs_rise : (p e : ℕ) (set values : List ℕ) → RisesFrom p e set → length values ≡ length set → IsRising (pairs_with set values)
pairs_rise p e [] values rises long = tt
pairs_rise p e (q ∷ set) [] rises long = tt
pairs_rise p e (q ∷ []) (v ∷ values) rises long = tt
pairs_rise p e (q ∷ r ∷ set) (v ∷ []) rises long = tt
pairs_rise p e (q ∷ r ∷ set) (v ∷ w ∷ values) rises long =
    (omega (arith, rises.2.0), pairs_rise (q + 1) e (r ∷ set) (w ∷ values) rises.2 (omega (arith, long)))

-- numbers that rise in one range rise in a wider one
pub rises_wider : (p e q f : ℕ) (set : List ℕ) → q ≤ p → e ≤ f → RisesFrom p e set → RisesFrom q f set
rises_wider p e q f [] low high rises = tt
rises_wider p e q f (r ∷ set) low high rises =
    (omega (arith, rises.0, low), omega (arith, rises.1, high), rises_wider (r + 1) e (r + 1) f set (omega arith) high rises.2)

-- nothing is given below the members
none_given : (p e q : ℕ) (set values : List ℕ) → RisesFrom p e set → q < p → value_given set values q ≡ None
none_given p e q [] values rises below = refl
none_given p e q (r ∷ set) [] rises below = refl
none_given p e q (r ∷ set) (v ∷ values) rises below =
    ap (λ (b : Bool). cond b (Some v) (value_given set values q)) (ne_eqb r q (λ same. omega (arith, rises.0, below, same)))
    ∙ none_given (r + 1) e q set values rises.2 (omega (arith, rises.0, below))

-- the first member has no value behind itself
given_behind : (q v : ℕ) (set values : List ℕ) (p n : ℕ) → q < p
    → map (value_given (q ∷ set) (v ∷ values)) (range_with_len p n) ≡ map (value_given set values) (range_with_len p n)
given_behind q v set values p zero above = refl
given_behind q v set values p (suc n) above =
    ap (λ (b : Bool). cond b (Some v) (value_given set values p) ∷ map (value_given (q ∷ set) (v ∷ values)) (range_with_len (p + 1) n))
    (ne_eqb q p (λ same. omega (arith, above, same)))
    ∙ ap (λ rest. value_given set values p ∷ rest) (given_behind q v set values (p + 1) n (omega (arith, above)))

-- the cells of a rising set with values are those of the pairs
given_pairs : (set values : List ℕ) (p n : ℕ) → RisesFrom p (p + n) set → length values ≡ length set
    → pairs_from p (map (value_given set values) (range_with_len p n)) ≡ pairs_with set values
given_pairs [] values p zero rises long = refl
given_pairs [] values p (suc n) rises long = given_pairs [] values (p + 1) n tt long
given_pairs (q ∷ set) [] p n rises long = absurd (omega (arith, long))
given_pairs (q ∷ set) (v ∷ values) p zero rises long = absurd (omega (arith, rises.0, rises.1))
given_pairs (q ∷ set) (v ∷ values) p (suc n) rises long =
    elim (cases_eq q p) [
      | inl same ↦
          ap (λ (b : Bool). pairs_from p (cond b (Some v) (value_given set values p) ∷ later)) (eq-eqb q p same)
          ∙ ap (λ cells. (p, v) ∷ pairs_from (p + 1) cells) (given_behind q v set values (p + 1) n (omega (arith, same)))
          ∙ ap (λ pairs. (p, v) ∷ pairs)
          (given_pairs set values (p + 1) n (rises_wider (q + 1) (p + suc n) (p + 1) ((p + 1) + n) set (omega (arith, same)) (omega arith) rises.2) (omega (arith, long)))
          ∙ ap (λ k. (k, v) ∷ pairs_with set values) (sym same)
      | inr apart ↦
          ap (λ (b : Bool). pairs_from p (cond b (Some v) (value_given set values p) ∷ later)) (ne_eqb q p apart)
          ∙ ap (λ cell. pairs_from p (cell ∷ later)) (none_given (q + 1) (p + suc n) p set values rises.2 (omega (arith, rises.0)))
          ∙ given_pairs (q ∷ set) (v ∷ values) (p + 1) n (
            omega (arith, rises.0, apart),
            omega
                (arith, rises.1),
            rises_wider (q + 1) (p + suc n) (q + 1) ((p + 1) + n) set (omega arith) (omega arith) rises.2,
          ) long
    ]
  where
    later : List (Option ℕ)
    later = map (value_given (q ∷ set) (v ∷ values)) (range_with_len (p + 1) n)

pub pairs_are : (m : ModelView) (set values : List ℕ) → RisesFrom 0 (length m.params) set → length values ≡ length set
    → pairs_of (tuple_cells m set values) ≡ pairs_with set values
pairs_are m set values rises long =
    given_pairs set values 0 (length m.params) (rises_wider 0 (length m.params) 0 (0 + length m.params) set (omega arith) (omega arith) rises) long

-- the members of a set rise
pub set_rises : (m : ModelView) (plan : PlanView) (set : ℕ) → plan ≡ plan_of m → All (RisesFrom 0 (length plan.positives)) plan.sets → set < length plan.sets
    → RisesFrom 0 (length m.params) (set_at plan set)
set_rises m plan set same rising within =
    let wide : length plan.positives ≡ length m.params =
    ap (λ (p : PlanView). length p.positives) same ∙ length-map-range_with_len (positive_values m) 0 (length m.params) in
    subst (λ n. RisesFrom 0 n (set_at plan set)) wide (rising set [] within)

-- the pairs of the tuple with these values are those of any tuple of its rank
pub same_tuple : (m : ModelView) (plan : PlanView) (set rank : ℕ) (values : List ℕ) (cells : List (Option ℕ)) (pairs : List (ℕ × ℕ))
    → plan ≡ plan_of m → All (RisesFrom 0 (length plan.positives)) plan.sets → set < length plan.sets
    → IsChoice plan (set_at plan set) values → slice_get (tuples_of m (set_at plan set)) rank ≡ Some (tuple_cells m (set_at plan set) values)
    → pairs ≡ pairs_with (set_at plan set) values → slice_get (tuples_of m (set_at plan set)) rank ≡ Some cells → pairs ≡ pairs_of cells
same_tuple m plan set rank values cells pairs same rising within choice own is here =
    is ∙ sym (pairs_are m (set_at plan set) values (set_rises m plan set same rising within) (choice_long plan (set_at plan set) values choice.exist))
    ∙ ap pairs_of (same_Some (tuple_cells m (set_at plan set) values) cells (sym own ∙ here))

-- a place from the base of a set on is that of the set's tuple of the rank behind the base
at_place : (m : ModelView) (set place : ℕ) → set < length (demanded_sets m) → base_of m set ≤ place → place < base_of m set + get_or (plan_of m).sizes set 0
    → place < length (demanded_tuples m)
    → slice_get (tuples_of m (set_at (plan_of m) set)) (place - base_of m set) ≡ Some (get_or (demanded_tuples m) place [])
at_place m set place within low high below =
    let size = get_or-map (λ set. length (tuples_of m set)) (demanded_sets m) set [] 0 within in
    sym (tuple_there m set (place - base_of m set) within (omega (arith, low, high, size)))
    ∙ ap (slice_get (demanded_tuples m)) (omega (arith, low))
    ∙ slice_get-get_or (demanded_tuples m) place [] below

pub in_place : (m : ModelView) (plan : PlanView) (set place base : ℕ) → plan ≡ plan_of m → set < length plan.sets → base ≡ sum (take set plan.sizes)
    → sum (take set plan.sizes) ≤ place → place < sum (take set plan.sizes) + get_or plan.sizes set 0 → place < length (demanded_tuples m)
    → slice_get (tuples_of m (set_at plan set)) (place - base) ≡ Some (get_or (demanded_tuples m) place [])
in_place m plan set place base same =
    subst (λ (p : PlanView). set < length p.sets → base ≡ sum (take set p.sizes) → sum (take set p.sizes) ≤ place
    → place < sum (take set p.sizes) + get_or p.sizes set 0 → place < length (demanded_tuples m)
    → slice_get (tuples_of m (set_at p set)) (place - base) ≡ Some (get_or (demanded_tuples m) place []))
    (sym same)
    (λ within is low high below. ap (λ b. slice_get (tuples_of m (set_at (plan_of m) set)) (place - b)) is ∙ at_place m set place within low high below)
