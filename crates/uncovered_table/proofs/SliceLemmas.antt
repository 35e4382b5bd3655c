-- The tuples of a set in a slice: how many they are and where they start.
use Rattle.std.proofs.Common.{inl, inr, ◌≡◌, ℕ, zero, suc, ◌+◌, ◌*◌, ◌<◌, ◌≤◌, Bool, true, false, ◌||◌, not, List, [], ◌∷◌, ◌++◌}
use Rattle.std.proofs.Common.{map, length, get_or, sum_by, ◌∙◌, refl, sym, subst, ap, arith, zero-add}
use Rattle.std.specs.Prelude.{◌==◌, take_while, if◌then◌else◌}
use Rattle.std.specs.List.{filter, flat_map, range_with_len}
use Rattle.std.proofs.lemmas.Bool.{cases_eq, false≢true, cases_Bool, eq-eqb}
use Rattle.std.proofs.lemmas.Bool.Decides.{nat_tests}
use Rattle.std.proofs.lemmas.List.{length-map}
use Rattle.std.proofs.lemmas.List.FromFn.{length-map-range_with_len, get_or-map-range_with_len}
use Rattle.std.proofs.lemmas.List.Sums.{sum_by-append, sum_by-cons, take_while-cons}
use Rattle.std.proofs.Math.Bool.{or-true}
use Rattle.cov_model.specs.declared.slice.Slice.{Slice}
use Rattle.cov_model.specs.declared.slice.Slice.TheVariants.{Positive, Negative}
use Rattle.cov_model.specs.believed.Sound.{ModelView, param_at}
use Rattle.cov_model.specs.believed.Meaning.{value_at}
use Rattle.cov_model.specs.believed.Valid.{param_numbers}
use Rattle.cov_model.specs.believed.Slices.{negative_values, positive_values, slice_values}
use Rattle.definitions.specs.believed.Demand.{is_among, tuples_in}
use Rattle.definitions.specs.SliceRows.{IsSliceOf}
use Rattle.tuple_index.specs.Plan.{plan_of, tuple_cells}
use Rattle.tuple_index.specs.Places.{IsOwnSlice, RisesFrom, has_part, negatives_of, negative_ways, place_of, start_of, value_lists, values_in, ways, ways_before, ways_in}
use Rattle.tuple_index.proofs.ListingLemmas.{apart_test, not_among_before, rises_lower}
use Rattle.tuple_index.proofs.PlaceLemmas.{length-value_lists}
use Rattle.tuple_index.proofs.RankLemmas.{ways_negative}
use Rattle.tuple_index.proofs.TupleLemmas.{among_below, negative_lists_in, own_values, positive_lists}
use Rattle.uncovered_table.specs.Places.{is_slice, slice_start}
use Rattle.uncovered_table.proofs.ColumnLemmas.{filter_no, filter_yes}

-- a number that passes a test is among those of a range that do
among_passing : (f : ℕ → Bool) (a n v : ℕ) → a ≤ v → v < a + n → f v ≡ true → is_among (filter f (range_with_len a n)) v ≡ true
among_passing f a zero v least most passes = absurd (omega (arith, least, most))
among_passing f a (suc n) v least most passes =
    elim (cases_eq a v) [
      | inl here ↦
          let first = filter_yes f a (range_with_len (a + 1) n) (ap f here ∙ passes) in
          ap (λ vs. is_among vs v) first ∙ ap (λ b. b || is_among (filter f (range_with_len (a + 1) n)) v) (ap (λ u. u == v) here ∙ eq-eqb v v refl)
      | inr apart ↦
          let rest = among_passing f (a + 1) n v (omega (arith, least, apart)) (omega (arith, most)) passes in
          elim (cases_Bool (f a)) [
            | inl also ↦
                let first = filter_yes f a (range_with_len (a + 1) n) also in
                ap (λ vs. is_among vs v) first ∙ ap (λ b. (a == v) || b) rest ∙ or-true (a == v)
            | inr fails ↦ ap (λ vs. is_among vs v) (filter_no f a (range_with_len (a + 1) n) fails) ∙ rest
          ]
    ]

-- the negative values of a plan's parameter are the model's
pub own_negatives : (m : ModelView) (q : ℕ) → q < length m.params → negatives_of (plan_of m) q ≡ negative_values m q
own_negatives m q within = get_or-map-range_with_len (negative_values m) 0 (length m.params) q q [] within (zero-add q)

-- a slice of the model is one of its plan
pub own_slice : (m : ModelView) (slice : Slice) → IsSliceOf m slice → IsOwnSlice (plan_of m) slice
own_slice m Positive own = tt
own_slice m (Negative q v) own =
    let long : length (map (positive_values m) (param_numbers m)) ≡ length m.params = length-map-range_with_len (positive_values m) 0 (length m.params) in
    let among = among_passing (λ w. (value_at m q w).negative) 0 (length (param_at m.params q).values) v (omega arith) (omega (arith, own.1)) own.2 in
    (omega (arith, long, own.0), ap (λ vs. is_among vs v) (own_negatives m q own.0) ∙ among)

-- a parameter's values in the slice
pub slice_values_at : (m : ModelView) (slice : Slice) (p : ℕ) → IsSliceOf m slice → get_or (slice_values m slice) p [] ≡ values_in (plan_of m) slice p
slice_values_at m Positive p own = refl
slice_values_at m (Negative q v) p own =
    let long : length (map (positive_values m) (param_numbers m)) ≡ length m.params = length-map-range_with_len (positive_values m) 0 (length m.params) in
    own_values (map (positive_values m) (param_numbers m)) q v p (omega (arith, long, own.0))

-- the tuples of a set in a slice are its choices of values there
pub tuples_in-lists : (m : ModelView) (set : List ℕ) (slice : Slice) → RisesFrom 0 (length m.params) set → has_part set slice ≡ true
    → tuples_in m set slice ≡ map (tuple_cells m set) (value_lists (values_in (plan_of m) slice) set)
tuples_in-lists m set Positive rises part = positive_lists m set rises
tuples_in-lists m set (Negative q v) rises part = negative_lists_in m set q v rises part

pub length-tuples_in : (m : ModelView) (set : List ℕ) (slice : Slice) → RisesFrom 0 (length m.params) set → length (tuples_in m set slice)
    ≡ ways_in (plan_of m) set slice
length-tuples_in m set slice rises =
    elim (cases_Bool (has_part set slice)) [
      | inl part ↦
          let values = values_in (plan_of m) slice in
          ap length (tuples_in-lists m set slice rises part) ∙ length-map (value_lists values set) (tuple_cells m set) ∙ length-value_lists values set
          ∙ sym (ap (λ b. if b then ways values set else 0) part)
      | inr none ↦ no_part slice none ∙ sym (ap (λ b. if b then ways (values_in (plan_of m) slice) set else 0) none)
    ]
  where
    no_part : (slice : Slice) → has_part set slice ≡ false → length (tuples_in m set slice) ≡ 0
    no_part Positive none = absurd (false≢true (sym none))
    no_part (Negative q v) none = rw none refl

-- a sum of equal numbers
sum_same : {X : Type 0} (f : X → ℕ) (n : ℕ) (xs : List X) → ((x : X) → f x ≡ n) → sum_by f xs ≡ length xs * n
sum_same f n [] same = omega arith
sum_same f n (x ∷ xs) same =
    let rest = sum_same f n xs same in
    let more : length (x ∷ xs) * n ≡ n + length xs * n = grind arith in
    omega (arith, sum_by-cons f x xs, same x, rest, more)

-- the slices before the negative one of q and v
abbrev goes_on : ℕ → ℕ → Slice → Bool
goes_on q v slice = not (is_slice slice (Negative q v))

-- the tuples with an earlier negative value of the same parameter
start_inside : (count : Slice → ℕ) (q v w : ℕ) (vs : List ℕ) (rest : List Slice) → ((u : ℕ) → count (Negative q u) ≡ w) → is_among vs v ≡ true
    → sum_by count (take_while (goes_on q v) (map (λ u. Negative q u) vs ++ rest)) ≡ place_of vs v * w
start_inside count q v w [] rest same among = absurd (false≢true among)
start_inside count q v w (u ∷ vs) rest same among =
    let later = map (λ u. Negative q u) vs ++ rest in
    let opened = take_while-cons (goes_on q v) (Negative q u) later in
    elim (cases_eq u v) [
      | inl here ↦
          let test : (u == v) ≡ true = grind (arith, nat_tests) in
          let stops : goes_on q v (Negative q u) ≡ false = rw (eq-eqb q q refl, test) refl in
          let none : 0 ≡ 0 * w = grind arith in
          ap (sum_by count) (opened ∙ ap (λ b. if b then Negative q u ∷ take_while (goes_on q v) later else []) stops) ∙ rw test none
      | inr apart ↦
          let test : (u == v) ≡ false = grind (arith, nat_tests) in
          let passes : goes_on q v (Negative q u) ≡ true = rw (eq-eqb q q refl, test) refl in
          let inner = start_inside count q v w vs rest same (subst (λ b. (b || is_among vs v) ≡ true) test among) in
          let more : w + place_of vs v * w ≡ (place_of vs v + 1) * w = grind arith in
          ap (sum_by count) (opened ∙ ap (λ b. if b then Negative q u ∷ take_while (goes_on q v) later else []) passes)
          ∙ sum_by-cons count (Negative q u) (take_while (goes_on q v) later)
          ∙ ap (λ n. n + sum_by count (take_while (goes_on q v) later)) (same u) ∙ ap (λ n. w + n) inner ∙ rw test more
    ]

-- those with a negative value of another parameter
start_past : (q v p : ℕ) (vs : List ℕ) (rest : List Slice) → (p == q) ≡ false
    → take_while (goes_on q v) (map (λ u. Negative p u) vs ++ rest) ≡ map (λ u. Negative p u) vs ++ take_while (goes_on q v) rest
start_past q v p [] rest apart = refl
start_past q v p (u ∷ vs) rest apart =
    let later = map (λ u. Negative p u) vs ++ rest in
    let passes : goes_on q v (Negative p u) ≡ true = rw apart refl in
    take_while-cons (goes_on q v) (Negative p u) later ∙ ap (λ b. if b then Negative p u ∷ take_while (goes_on q v) later else []) passes
    ∙ ap (λ ss. Negative p u ∷ ss) (start_past q v p vs rest apart)

sum_mapped : (count : Slice → ℕ) (q w : ℕ) (vs : List ℕ) → ((u : ℕ) → count (Negative q u) ≡ w) → sum_by count (map (λ u. Negative q u) vs) ≡ length vs * w
sum_mapped count q w [] same = omega arith
sum_mapped count q w (u ∷ vs) same =
    let rest = sum_mapped count q w vs same in
    let more : length (u ∷ vs) * w ≡ w + length vs * w = grind arith in
    omega (arith, sum_by-cons count (Negative q u) (map (λ u. Negative q u) vs), same u, rest, more)

-- a member gives its tuples with a negative value of it, another parameter gives none
each_negative : (m : ModelView) (set : List ℕ) (q u : ℕ) → RisesFrom 0 (length m.params) set → is_among set q ≡ true
    → length (tuples_in m set (Negative q u)) ≡ ways (values_in (plan_of m) (Negative q 0)) set
each_negative m set q u rises among =
    let plan = plan_of m in
    length-tuples_in m set (Negative q u) rises ∙ ap (λ b. if b then ways (values_in plan (Negative q u)) set else 0) among ∙ ways_negative plan q u 0 set

member_sum : (m : ModelView) (set : List ℕ) (q : ℕ) → RisesFrom 0 (length m.params) set → is_among set q ≡ true
    → sum_by (λ slice. length (tuples_in m set slice)) (map (λ u. Negative q u) (negative_values m q)) ≡ negative_ways (plan_of m) set q
member_sum m set q rises among =
    let below = among_below set 0 (length m.params) q rises among in
    let each = ways (values_in (plan_of m) (Negative q 0)) set in
    sum_mapped (λ slice. length (tuples_in m set slice)) q each (negative_values m q) (λ u. each_negative m set q u rises among)
    ∙ ap (λ vs. length vs * each) (sym (own_negatives m q below))

other_sum : (m : ModelView) (set : List ℕ) (q : ℕ) → is_among set q ≡ false
    → sum_by (λ slice. length (tuples_in m set slice)) (map (λ u. Negative q u) (negative_values m q)) ≡ 0
other_sum m set q none =
    let no_tuple : (u : ℕ) → length (tuples_in m set (Negative q u)) ≡ 0 = λ u. rw none refl in
    let zeros : length (negative_values m q) * 0 ≡ 0 = grind arith in
    sum_mapped (λ slice. length (tuples_in m set slice)) q 0 (negative_values m q) no_tuple ∙ zeros

-- where the parameters from p on are left, and the members among them
start_from : (m : ModelView) (set : List ℕ) (q v : ℕ) (n p : ℕ) (members : List ℕ) → RisesFrom 0 (length m.params) set → q < length m.params
    → is_among (negative_values m q) v ≡ true → is_among set q ≡ true → RisesFrom p (p + n) members → is_among members q ≡ true
    → ((r : ℕ) → p ≤ r → is_among set r ≡ is_among members r)
    → sum_by (λ slice. length (tuples_in m set slice))
    (take_while (goes_on q v) (flat_map (λ r. map (λ u. Negative r u) (negative_values m r)) (range_with_len p n)))
    ≡ ways_before (plan_of m) set q members + place_of (negative_values m q) v * ways (values_in (plan_of m) (Negative q 0)) set
start_from m set q v zero p [] rises below negative part rise among same = absurd (false≢true among)
start_from m set q v zero p (r ∷ members) rises below negative part rise among same = absurd (omega (arith, rise.0, rise.1))
start_from m set q v (suc n) p [] rises below negative part rise among same = absurd (false≢true among)
start_from m set q v (suc n) p (r ∷ members) rises below negative part rise among same =
    let count : Slice → ℕ = λ slice. length (tuples_in m set slice) in
    let block : ℕ → List Slice = λ r. map (λ u. Negative r u) (negative_values m r) in
    let later = flat_map block (range_with_len (p + 1) n) in
    let each = ways (values_in (plan_of m) (Negative q 0)) set in
    let end : p + suc n ≡ p + 1 + n = omega arith in
    elim (cases_eq p q) [
      | inl here ↦
          let first : r ≡ q = first_member r members q p (p + suc n) (omega (arith, here)) rise among in
          let test : (r == q) ≡ true = grind (arith, nat_tests) in
          let inside = start_inside count q v each (negative_values m q) later (λ u. each_negative m set q u rises part) negative in
          let plain : place_of (negative_values m q) v * each ≡ 0 + place_of (negative_values m q) v * each = omega arith in
          ap (λ s. sum_by count (take_while (goes_on q v) (block s ++ later))) here ∙ inside ∙ plain
          ∙ ap (λ b. (if b then 0 else negative_ways (plan_of m) set r + ways_before (plan_of m) set q members) + place_of (negative_values m q) v * each)
          (sym test)
      | inr apart ↦
          let test : (p == q) ≡ false = grind (arith, nat_tests) in
          let past = ap (sum_by count) (start_past q v p (negative_values m p) later test) ∙ sum_by-append count (block p) (take_while (goes_on q v) later) in
          elim (cases_eq r p) [
            | inl own ↦
                let other : (r == q) ≡ false = grind (arith, nat_tests) in
                let held : is_among set p ≡ true = same p (omega arith) ∙ rw (ap (λ s. s == p) own ∙ eq-eqb p p refl) refl in
                let rise_on : RisesFrom (p + 1) (p + 1 + n) members = subst (λ k. RisesFrom (p + 1) k members) end
                (subst (λ k. RisesFrom (k + 1) (p + suc n) members) own rise.2) in
                let among_on : is_among members q ≡ true = subst (λ b. (b || is_among members q) ≡ true) other among in
                let inner = start_from m set q v n (p + 1) members rises below negative part rise_on among_on
                (λ s least. same s (omega (arith, least)) ∙ ap (λ b. b || is_among members s) (apart_test r s (omega (arith, own, least)))) in
                let mine = member_sum m set p rises held ∙ ap (negative_ways (plan_of m) set) (sym own) in
                past ∙ sum_up (sum_by count (block p)) (sum_by count (take_while (goes_on q v) later)) (negative_ways (plan_of m) set r)
                (ways_before (plan_of m) set q members)
                (place_of (negative_values m q) v * each) mine inner
                ∙ ap (λ b. (if b then 0 else negative_ways (plan_of m) set r + ways_before (plan_of m) set q members) + place_of
                (negative_values m q) v * each) (sym other)
            | inr away ↦
                let rise_on : RisesFrom (p + 1) (p + 1 + n) (r ∷ members) = subst (λ k. RisesFrom (p + 1) k (r ∷ members)) end
                (omega (arith, rise.0, away), rise.1, rise.2) in
                let held : is_among set p ≡ false = same p (omega arith) ∙ not_among_before (r ∷ members) p (p + 1 + n) rise_on in
                let inner = start_from m set q v n (p + 1) (r ∷ members) rises below negative part rise_on among (λ s least. same s (omega (arith, least))) in
                past ∙ sum_past (sum_by count (block p)) (sum_by count (take_while (goes_on q v) later)) _ (other_sum m set p held) inner
          ]
    ]
  where
    first_member : (r : ℕ) (members : List ℕ) (q p e : ℕ) → q ≤ p → RisesFrom p e (r ∷ members) → is_among (r ∷ members) q ≡ true → r ≡ q
    first_member r members q p e low rise among =
        elim (cases_eq r q) [
          | inl here ↦ here
          | inr apart ↦
              let test : (r == q) ≡ false = grind (arith, nat_tests) in
              let none = not_among_before members q e (rises_lower members (r + 1) (q + 1) e (omega (arith, rise.0, low)) rise.2) in
              absurd (false≢true (sym none ∙ subst (λ b. (b || is_among members q) ≡ true) test among))
        ]

    sum_up : (a b x y z : ℕ) → a ≡ x → b ≡ y + z → a + b ≡ x + y + z
    sum_up a b x y z first second = omega (arith, first, second)

    sum_past : (a b z : ℕ) → a ≡ 0 → b ≡ z → a + b ≡ z
    sum_past a b z first second = omega (arith, first, second)

-- where the tuples of the slice start
pub start_is : (m : ModelView) (set : List ℕ) (slice : Slice) → RisesFrom 0 (length m.params) set → IsSliceOf m slice → has_part set slice ≡ true
    → slice_start m set slice ≡ start_of (plan_of m) set slice
start_is m set Positive rises own part =
    let count : Slice → ℕ = λ slice. length (tuples_in m set slice) in
    ap (sum_by count) (take_while-cons (λ before. not (is_slice before Positive)) Positive
    (flat_map (λ p. map (λ v. Negative p v) (negative_values m p)) (param_numbers m)))
start_is m set (Negative q v) rises own part =
    let plan = plan_of m in
    let count : Slice → ℕ = λ slice. length (tuples_in m set slice) in
    let later = flat_map (λ p. map (λ v. Negative p v) (negative_values m p)) (param_numbers m) in
    let among = (own_slice m (Negative q v) own).1 in
    let negative : is_among (negative_values m q) v ≡ true = ap (λ vs. is_among vs v) (sym (own_negatives m q own.0)) ∙ among in
    let inner = start_from m set q v (length m.params) 0 set rises own.0 negative part
    (subst (λ k. RisesFrom 0 k set) (sym (zero-add (length m.params))) rises) part (λ r least. refl) in
    ap (sum_by count) (take_while-cons (goes_on q v) Positive later)
    ∙ sum_by-cons count Positive (take_while (goes_on q v) later)
    ∙ ap (λ n. n + sum_by count (take_while (goes_on q v) later)) (length-tuples_in m set Positive rises)
    ∙ ap (λ n. ways (values_in plan Positive) set + n) inner
    ∙ ap (λ vs. ways (values_in plan Positive) set + (ways_before plan set q set + place_of vs v * ways (values_in plan (Negative q 0)) set))
    (sym (own_negatives m q own.0))
