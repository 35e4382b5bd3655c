-- The values of a demanded tuple stand at their rank.
use Rattle.std.proofs.Common.{inl, inr, ◌≡◌, ℕ, suc, ◌+◌, ◌*◌, ◌^◌, ◌<◌, ◌≤◌, Bool, true, false, ◌||◌, List, [], ◌∷◌, ◌++◌, length}
use Rattle.std.proofs.Common.{get_or, Some, sum_by, ◌∙◌, refl, sym, subst, ap, arith, zero-add, length-append}
use Rattle.std.specs.List.{flat_map}
use Rattle.std.specs.Prelude.{sum, ◌==◌, slice_get, if◌then◌else◌}
use Rattle.std.specs.Option.{option_map}
use Rattle.std.proofs.lemmas.Option.{slice_get_within, slice_get-map}
use Rattle.std.proofs.lemmas.List.FromFn.{length-map-range_with_len}
use Rattle.cov_model.specs.believed.Sound.{ModelView}
use Rattle.cov_model.specs.believed.Slices.{positive_values}
use Rattle.std.proofs.lemmas.Bool.{cases_eq, false≢true, and_parts, eq-eqb}
use Rattle.std.proofs.lemmas.Bool.Decides.{nat_tests}
use Rattle.std.proofs.lemmas.List.Sums.{sum_by-cons, get_or-le-sum_by}
use Rattle.cov_model.specs.declared.slice.Slice.{Slice}
use Rattle.cov_model.specs.declared.slice.Slice.TheVariants.{Positive, Negative}
use Rattle.definitions.specs.believed.Demand.{is_among, tuples_of}
use Rattle.tuple_index.specs.Kept.{IsKept}
use Rattle.tuple_index.specs.Plan.{PlanView, plan_of, set_at, tuple_cells, IsChoice, are_values, is_negative, is_value, negative_count}
use Rattle.tuple_index.specs.Places.{RisesFrom, values_in, negatives_of, value_lists, ways, place_of, place, negative_ways, ways_before}
use Rattle.tuple_index.specs.Places.{tuple_count, negative_lists, tuple_lists, start_of, slice_given, rank_of}
use Rattle.tuple_index.proofs.ListingLemmas.{apart_test, above_test, rises_lower}
use Rattle.tuple_index.proofs.TupleLemmas.{among_more, tuples_of-lists}
use Rattle.tuple_index.proofs.PlaceLemmas.{all_among, length-value_lists, length-flat_map_same, slice_get-append_left, slice_get-append_right, slice_get-pieces, slice_get-place_of, slice_get-place}

-- values of a slice: each is its member's there, and a negative slice is that of a member's negative value
abbrev AreOfSlice : PlanView → List ℕ → List ℕ → ℕ → Slice → Type 0
AreOfSlice plan set chosen p Positive = all_among (values_in plan Positive) set chosen ≡ true
AreOfSlice plan set chosen p (Negative q v) =
    (p ≤ q) × (all_among (values_in plan (Negative q v)) set chosen ≡ true) × (is_among set q ≡ true) × (is_among (negatives_of plan q) v ≡ true)

pub or_left : (a b : Bool) → b ≡ false → (a || b) ≡ true → a ≡ true
or_left true b off either = refl
or_left false b off either = absurd (false≢true (sym off ∙ either))

-- how many are negative, where the first one is or isn't
rest_count : (b : Bool) (n most : ℕ) → (if b then 1 else 0) + n ≤ most → n ≤ most
rest_count b n most few = omega (arith, few)

-- without a negative value all are positive
all_positive : (plan : PlanView) (set chosen : List ℕ) → are_values plan set chosen ≡ true → negative_count plan set chosen ≤ 0
    → all_among (values_in plan Positive) set chosen ≡ true
all_positive plan [] [] exist none = refl
all_positive plan [] (v ∷ chosen) exist none = exist
all_positive plan (p ∷ set) [] exist none = exist
all_positive plan (p ∷ set) (v ∷ chosen) exist none = by_sign (is_negative plan p v) refl (all_positive plan set chosen)
  where
    by_sign : (b : Bool) → is_negative plan p v ≡ b
        → (are_values plan set chosen ≡ true → negative_count plan set chosen ≤ 0 → all_among (values_in plan Positive) set chosen ≡ true)
        → all_among (values_in plan Positive) (p ∷ set) (v ∷ chosen) ≡ true
    by_sign true sign rest = let h : 1 + negative_count plan set chosen ≤ 0 = subst (λ b. (if b then 1 else 0) + negative_count plan set chosen ≤ 0)
        sign none in absurd (omega (arith, h))
    by_sign false sign rest =
        let parts = and_parts (is_value plan p v) (are_values plan set chosen) exist in
        let own : is_among (values_in plan Positive p) v ≡ true = or_left (is_among (values_in plan Positive p) v) (is_negative plan p v) sign parts.0 in
        rw own (rest parts.1 (rest_count (is_negative plan p v) (negative_count plan set chosen) 0 none))

-- members above q have their positive values in a negative slice of q
pub all_among_above : (plan : PlanView) (q v : ℕ) (set chosen : List ℕ) (e : ℕ) → RisesFrom (q + 1) e set
    → all_among (values_in plan Positive) set chosen ≡ all_among (values_in plan (Negative q v)) set chosen
all_among_above plan q v [] [] e rises = refl
all_among_above plan q v [] (w ∷ chosen) e rises = refl
all_among_above plan q v (p ∷ set) [] e rises = refl
all_among_above plan q v (p ∷ set) (w ∷ chosen) e rises =
    let test = above_test p q (omega (arith, rises.0)) in
    let later = all_among_above plan q v set chosen e (rises_lower set (p + 1) (q + 1) e (omega (arith, rises.0)) rises.2) in
    rw (test, later) refl

-- one more member, with a positive value
more_of_slice : (plan : PlanView) (set chosen : List ℕ) (r w p : ℕ) → p ≤ r → is_among (values_in plan Positive r) w ≡ true
    → (s : Slice) → AreOfSlice plan set chosen (r + 1) s → AreOfSlice plan (r ∷ set) (w ∷ chosen) p s
more_of_slice plan set chosen r w p le own Positive h = rw own h
more_of_slice plan set chosen r w p le own (Negative q v) h =
    let test = apart_test r q (omega (arith, h.0)) in
    (omega (arith, h.0, le), rw (test, own) h.1, among_more r set q h.2, h.3)

-- at most one negative value: the values are those of their slice
are_of_slice : (plan : PlanView) (set chosen : List ℕ) (p e : ℕ) → RisesFrom p e set → are_values plan set chosen ≡ true → negative_count plan set chosen ≤ 1
    → AreOfSlice plan set chosen p (slice_given plan set chosen)
are_of_slice plan [] [] p e rises exist few = refl
are_of_slice plan [] (v ∷ chosen) p e rises exist few = exist
are_of_slice plan (r ∷ set) [] p e rises exist few = exist
are_of_slice plan (r ∷ set) (w ∷ chosen) p e rises exist few = by_sign (is_negative plan r w) refl (are_of_slice plan set chosen (r + 1) e rises.2)
  where
    by_sign : (b : Bool) → is_negative plan r w ≡ b
        → (are_values plan set chosen ≡ true → negative_count plan set chosen ≤ 1 → AreOfSlice plan set chosen (r + 1) (slice_given plan set chosen))
        → AreOfSlice plan (r ∷ set) (w ∷ chosen) p (if is_negative plan r w then Negative r w else slice_given plan set chosen)
    by_sign true sign rest =
        let parts = and_parts (is_value plan r w) (are_values plan set chosen) exist in
        let one : 1 + negative_count plan set chosen ≤ 1 = subst (λ b. (if b then 1 else 0) + negative_count plan set chosen ≤ 1) sign few in
        let none : negative_count plan set chosen ≤ 0 = omega (arith, one) in
        let here : (if is_negative plan r w then Negative r w else slice_given plan set chosen) ≡ Negative r w = rw sign refl in
        let later = sym (all_among_above plan r w set chosen e rises.2) ∙ all_positive plan set chosen parts.1 none in
        let first : all_among (values_in plan (Negative r w)) (r ∷ set) (w ∷ chosen) ≡ true = rw (eq-eqb r r refl, eq-eqb w w refl) later in
        subst (AreOfSlice plan (r ∷ set) (w ∷ chosen) p) (sym here) (rises.0, first, rw (eq-eqb r r refl) refl, sign)
    by_sign false sign rest =
        let parts = and_parts (is_value plan r w) (are_values plan set chosen) exist in
        let own : is_among (values_in plan Positive r) w ≡ true = or_left (is_among (values_in plan Positive r) w) (is_negative plan r w) sign parts.0 in
        let there : (if is_negative plan r w then Negative r w else slice_given plan set chosen) ≡ slice_given plan set chosen = rw sign refl in
        subst (AreOfSlice plan (r ∷ set) (w ∷ chosen) p) (sym there)
        (more_of_slice plan set chosen r w p rises.0 own (slice_given plan set chosen)
        (rest parts.1 (rest_count (is_negative plan r w) (negative_count plan set chosen) 1 few)))

-- the numbers of ways
pub ways_negative : (plan : PlanView) (q v w : ℕ) (set : List ℕ) → ways (values_in plan (Negative q v)) set ≡ ways (values_in plan (Negative q w)) set
ways_negative plan q v w [] = refl
ways_negative plan q v w (p ∷ set) =
    let own : length (if p == q then v ∷ [] else values_in plan Positive p) ≡ length (if p == q then w ∷ [] else values_in plan Positive p) =
    elim (p == q) as (λ b. length (if b then v ∷ [] else values_in plan Positive p) ≡ length (if b then w ∷ [] else values_in plan Positive p))
    [ true ↦ refl | false ↦ refl ] in
    ap (λ n. n * ways (values_in plan (Negative q v)) set) own ∙ ap (λ n. length (values_in plan (Negative q w) p) * n) (ways_negative plan q v w set)

pub length_negative : (plan : PlanView) (set : List ℕ) (p v : ℕ) → length (value_lists (values_in plan (Negative p v)) set)
    ≡ ways (values_in plan (Negative p 0)) set
length_negative plan set p v = length-value_lists (values_in plan (Negative p v)) set ∙ ways_negative plan p v 0 set

pub length-negative_lists : (plan : PlanView) (set : List ℕ) (p : ℕ) → length (negative_lists plan set p) ≡ negative_ways plan set p
length-negative_lists plan set p =
    length-flat_map_same (λ v. value_lists (values_in plan (Negative p v)) set) (ways (values_in plan (Negative p 0)) set) (negatives_of plan p)
    (length_negative plan set p)

pub length-negatives : (plan : PlanView) (set members : List ℕ) → length (flat_map (negative_lists plan set) members) ≡ sum_by (negative_ways plan set) members
length-negatives plan set [] = refl
length-negatives plan set (p ∷ members) =
    length-append (negative_lists plan set p) (flat_map (negative_lists plan set) members)
    ∙ ap (λ n. n + length (flat_map (negative_lists plan set) members)) (length-negative_lists plan set p)
    ∙ ap (λ n. negative_ways plan set p + n) (length-negatives plan set members)
    ∙ sym (sum_by-cons (negative_ways plan set) p members)

pub length-tuple_lists : (plan : PlanView) (set : List ℕ) → length (tuple_lists plan set) ≡ tuple_count plan set
length-tuple_lists plan set =
    length-append (value_lists (values_in plan Positive) set) (flat_map (negative_lists plan set) set)
    ∙ ap (λ n. n + length (flat_map (negative_lists plan set) set)) (length-value_lists (values_in plan Positive) set)
    ∙ ap (λ n. ways (values_in plan Positive) set + n) (length-negatives plan set set)

-- the tuples of a member stand after those of the members before
pub slice_get-negatives : (plan : PlanView) (set : List ℕ) (q : ℕ) (members : List ℕ) (k : ℕ) (y : List ℕ) → is_among members q ≡ true
    → slice_get (negative_lists plan set q) k ≡ Some y
    → slice_get (flat_map (negative_lists plan set) members) (ways_before plan set q members + k) ≡ Some y
slice_get-negatives plan set q [] k y among inner = absurd (false≢true among)
slice_get-negatives plan set q (p ∷ members) k y among inner =
    elim (cases_eq p q) [
      | inl here ↦ let test : (p == q) ≡ true = grind (arith, nat_tests) in
          rw test (ap (slice_get (negative_lists plan set p ++ flat_map (negative_lists plan set) members)) (zero-add k)
          ∙ slice_get-append_left (negative_lists plan set p) (flat_map (negative_lists plan set) members) k y
          (ap (λ r. slice_get (negative_lists plan set r) k) here ∙ inner))
      | inr apart ↦ let test : (p == q) ≡ false = grind (arith, nat_tests) in
          let rest = slice_get-negatives plan set q members k y (subst (λ b. (b || is_among members q) ≡ true) test among) inner in
          let long = length-negative_lists plan set p in
          let at : negative_ways plan set p + ways_before plan set q members + k ≡ length (negative_lists plan set p) +
          (ways_before plan set q members + k) = omega (arith, long) in
          rw test (slice_get-append_right (negative_lists plan set p) (flat_map (negative_lists plan set) members)
          (negative_ways plan set p + ways_before plan set q members + k) (ways_before plan set q members + k) at ∙ rest)
    ]

-- values of a slice stand after the slices before
slice_get-slice : (plan : PlanView) (set chosen : List ℕ) (s : Slice) → AreOfSlice plan set chosen 0 s
    → slice_get (tuple_lists plan set) (start_of plan set s + place (values_in plan s) set chosen) ≡ Some chosen
slice_get-slice plan set chosen Positive h =
    ap (slice_get (tuple_lists plan set)) (zero-add (place (values_in plan Positive) set chosen))
    ∙ slice_get-append_left (value_lists (values_in plan Positive) set) (flat_map (negative_lists plan set) set)
    (place (values_in plan Positive) set chosen) chosen (slice_get-place (values_in plan Positive) set chosen h)
slice_get-slice plan set chosen (Negative q v) h =
    let d = place_of (negatives_of plan q) v in
    let n = ways (values_in plan (Negative q 0)) set in
    let inner = place (values_in plan (Negative q v)) set chosen in
    let own = slice_get-pieces (λ v. value_lists (values_in plan (Negative q v)) set) n (negatives_of plan q) d inner (d * n + inner) v chosen
    (length_negative plan set q) refl (slice_get-place_of (negatives_of plan q) v h.3) (slice_get-place (values_in plan (Negative q v)) set chosen h.1) in
    let long = length-value_lists (values_in plan Positive) set in
    let at : start_of plan set (Negative q v) + inner ≡ length (value_lists (values_in plan Positive) set) + (ways_before plan set q set + (d * n + inner)) =
    omega (arith, long) in
    slice_get-append_right (value_lists (values_in plan Positive) set) (flat_map (negative_lists plan set) set) (start_of plan set (Negative q v) + inner)
    (ways_before plan set q set + (d * n + inner)) at
    ∙ slice_get-negatives plan set q set (d * n + inner) chosen h.2 own

-- a choice of values stands at its rank
pub slice_get-rank_of : (plan : PlanView) (set chosen : List ℕ) (e : ℕ) → RisesFrom 0 e set → IsChoice plan set chosen
    → slice_get (tuple_lists plan set) (rank_of plan set chosen) ≡ Some chosen
slice_get-rank_of plan set chosen e rises choice =
    slice_get-slice plan set chosen (slice_given plan set chosen) (are_of_slice plan set chosen 0 e rises choice.exist choice.few)

-- a choice has a value for each member
pub choice_long : (plan : PlanView) (set chosen : List ℕ) → are_values plan set chosen ≡ true → length chosen ≡ length set
choice_long plan [] [] exist = refl
choice_long plan [] (v ∷ chosen) exist = absurd (false≢true exist)
choice_long plan (p ∷ set) [] exist = absurd (false≢true exist)
choice_long plan (p ∷ set) (v ∷ chosen) exist =
    let parts = and_parts (is_value plan p v) (are_values plan set chosen) exist in
    ap suc (choice_long plan set chosen parts.1)

-- the tuples of a set are few
pub count_within : (plan : PlanView) (set : ℕ) → IsKept plan → set < length plan.sets → tuple_count plan (set_at plan set) ≤ 2 ^ 26
count_within plan set kept exists =
    let inside : set < length plan.sizes = omega (arith, kept.as_many) in
    let part : get_or plan.sizes set 0 ≤ sum plan.sizes = get_or-le-sum_by (λ n. n) plan.sizes set 0 inside in
    omega (arith, part, kept.within, kept.counted set exists)

pub rank_inside : (plan : PlanView) (set : ℕ) (chosen : List ℕ) (e : ℕ) → IsKept plan → set < length plan.sets → RisesFrom 0 e (set_at plan set)
    → IsChoice plan (set_at plan set) chosen → rank_of plan (set_at plan set) chosen < get_or plan.sizes set 0
rank_inside plan set chosen e kept exists rises choice =
    let inside = slice_get_within (tuple_lists plan (set_at plan set)) (rank_of plan (set_at plan set) chosen) chosen
    (slice_get-rank_of plan (set_at plan set) chosen e rises choice) in
    omega (arith, inside, length-tuple_lists plan (set_at plan set), kept.counted set exists)

pub rank_within : (plan : PlanView) (set : ℕ) (chosen : List ℕ) (e : ℕ) → IsKept plan → set < length plan.sets → RisesFrom 0 e (set_at plan set)
    → IsChoice plan (set_at plan set) chosen → rank_of plan (set_at plan set) chosen < 2 ^ 26
rank_within plan set chosen e kept exists rises choice =
    omega (arith, rank_inside plan set chosen e kept exists rises choice, kept.counted set exists, count_within plan set kept exists)

-- what stands where in the lists of values stands there in the demanded tuples
pub slice_get-tuples_of : (m : ModelView) (plan : PlanView) (set : List ℕ) (rank : ℕ) (chosen : List ℕ) → plan ≡ plan_of m
    → RisesFrom 0 (length plan.positives) set
    → slice_get (tuple_lists plan set) rank ≡ Some chosen → slice_get (tuples_of m set) rank ≡ Some (tuple_cells m set chosen)
slice_get-tuples_of m plan set rank chosen same rises here =
    let long : length plan.positives ≡ length m.params = ap (λ p. length p.positives) same
    ∙ length-map-range_with_len (positive_values m) 0 (length m.params) in
    let whole = tuples_of-lists m set (subst (λ n. RisesFrom 0 n set) long rises) in
    let there = subst (λ p. slice_get (tuple_lists p set) rank ≡ Some chosen) same here in
    ap (λ ts. slice_get ts rank) whole ∙ slice_get-map (tuple_cells m set) (tuple_lists (plan_of m) set) rank ∙ ap (option_map (tuple_cells m set)) there
