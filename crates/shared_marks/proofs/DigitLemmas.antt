-- The digits of a valid row's values, and the places that they make.
use Rattle.std.proofs.Common.{inl, inr, ◌≡◌, ℕ, zero, suc, ◌+◌, ◌*◌, ◌^◌, ◌<◌, ◌≤◌, Bool, true, false, ◌||◌, not, cond}
use Rattle.std.proofs.Common.{List, [], ◌∷◌, ◌++◌, map, drop, length, get_or, set, All, Option, Some, ◌∙◌, refl, sym, ap, subst, arith, zero-add, add-one, drop-cons, length-append}
use Rattle.std.specs.Prelude.{◌==◌, slice_get}
use Rattle.std.specs.List.{filter, range_with_len}
use Rattle.std.proofs.lemmas.Bool.{cases_eq, eq-eqb, eqb-true, false_from_ne_true, false≢true, ne_eqb}
use Rattle.std.proofs.lemmas.Option.{slice_get_within}
use Rattle.std.proofs.lemmas.List.{drop_all, get_or_default, get_or-set_other, get_or-set_same, length-set}
use Rattle.std.proofs.lemmas.List.Elements.{filter-append}
use Rattle.std.proofs.lemmas.List.FromFn.{get_or-map-range_with_len, length-map-range_with_len, length-range_with_len}
use Rattle.value_text.proofs.ListLemmas.{length-filter-le, pos_right_of_mul, range_with_len_more}
use Rattle.cov_model.specs.declared.slice.Slice.{Slice}
use Rattle.cov_model.specs.declared.slice.Slice.TheVariants.{Positive, Negative}
use Rattle.cov_model.specs.believed.Sound.{IsSound, ModelView, no_param, param_at}
use Rattle.cov_model.specs.believed.Meaning.{value_at}
use Rattle.cov_model.specs.believed.Rows.{value_in}
use Rattle.cov_model.specs.believed.Slices.{negative_values, positive_values, slice_by, slice_of, value_numbers}
use Rattle.cov_model.specs.believed.Valid.{is_valid, negatives}
use Rattle.cov_model.proofs.RowLemmas.{row_has_value, row_is_assigned}
use Rattle.definitions.specs.believed.Demand.{demanded_sets, is_among, tuples_of}
use Rattle.definitions.proofs.Members.{Has, among_has, has_filter, of_among, same_answer}
use Rattle.definitions.proofs.Serving.{value_of}
use Rattle.definitions.proofs.SliceLemmas.{has_negatives, has_numbers, negative_exists, of_negatives}
use Rattle.tuple_index.specs.Kept.{IsKept}
use Rattle.tuple_index.specs.Places.{IsOwnSlice, RisesFrom, has_part, place, place_of, rank_of, slice_given, start_of, values_in, ways}
use Rattle.tuple_index.specs.Plan.{PlanView, is_negative, is_value, plan_of, set_at}
use Rattle.tuple_index.proofs.LoopLemmas.{rises_within}
use Rattle.tuple_index.proofs.OrderLemmas.{demanded_rise}
use Rattle.tuple_index.proofs.PlaceLemmas.{slice_get-place_of}
use Rattle.tuple_index.proofs.RankLemmas.{or_left, rank_within, slice_get-rank_of, slice_get-tuples_of}
use Rattle.shared_marks.specs.declared.digits.Digit.{Digit}
use Rattle.shared_marks.specs.Digits.{AreDigits, ArePut, IsDigit, IsPlacing, is_fixed, own_slice}
use Rattle.shared_marks.specs.Served.{IsServedRank}
use Rattle.shared_marks.proofs.OwnTupleLemmas.{ChosenFrom, ValidRow, chosen_from, negatives_listed, own_choice, own_negative, own_rank, own_tuple, own_values, sign_of}

-- one number more, where it passes
count_more : (f : ℕ → Bool) (v count : ℕ) → count ≡ length (filter f (range_with_len 0 v))
    → count + cond (f v) 1 0 ≡ length (filter f (range_with_len 0 (v + 1)))
count_more f v count so_far =
    ap (λ k. k + cond (f v) 1 0) so_far ∙ ap (λ k. length (filter f (range_with_len 0 v)) + k) (one (f v))
    ∙ sym (length-append (filter f (range_with_len 0 v)) (cond (f v) (v ∷ []) []))
    ∙ ap length (sym (filter-append f (range_with_len 0 v) (v ∷ []))
    ∙ ap (filter f) (sym (range_with_len_more 0 v ∙ ap (λ k. range_with_len 0 v ++ k ∷ []) (zero-add v))))
  where
    one : (b : Bool) → cond b 1 0 ≡ length (cond b (v ∷ []) [])
    one true = refl
    one false = refl

pub count_next : (f : ℕ → Bool) (v count next : ℕ) (b : Bool) → f v ≡ b → next ≡ count + cond b 1 0 → count ≡ length (filter f (range_with_len 0 v))
    → next ≡ length (filter f (range_with_len 0 (v + 1)))
count_next f v count next b is more so_far = more ∙ ap (λ t. count + cond t 1 0) (sym is) ∙ count_more f v count so_far

-- a number that passes stands behind those before it that pass
place_before : (f : ℕ → Bool) (a k n v : ℕ) → a + k ≡ v → f v ≡ true → k < n
    → place_of (filter f (range_with_len a n)) v ≡ length (filter f (range_with_len a k))
place_before f a k zero v at passes below = absurd (omega (arith, below))
place_before f a zero (suc n) v at passes below =
    let here : a ≡ v = omega (arith, at) in
    let rest = filter f (range_with_len (a + 1) n) in
    ap (λ b. place_of (cond b (a ∷ rest) rest) v) (ap f here ∙ passes) ∙ ap (λ b. cond b 0 (place_of rest v + 1)) (eq-eqb a v here)
place_before f a (suc k) (suc n) v at passes below = by_test (f a) (place_before f (a + 1) k n v (omega (arith, at)) passes (omega (arith, below)))
  where
    rest : ℕ → List ℕ
    rest count = filter f (range_with_len (a + 1) count)

    by_test : (b : Bool) → place_of (rest n) v ≡ length (rest k) → place_of (cond b (a ∷ rest n) (rest n)) v ≡ length (cond b (a ∷ rest k) (rest k))
    by_test true later = ap (λ b. cond b 0 (place_of (rest n) v + 1)) (ne_eqb a v (λ same. omega (arith, same, at))) ∙ omega (arith, later)
    by_test false later = later

-- where all pass, all before one do
all_before : (f : ℕ → Bool) (a k n : ℕ) → k ≤ n → length (filter f (range_with_len a n)) ≡ n → length (filter f (range_with_len a k)) ≡ k
all_before f a zero n below all = refl
all_before f a (suc k) zero below all = absurd (omega (arith, below))
all_before f a (suc k) (suc n) below all = by_test (f a) (all_before f (a + 1) k n (omega (arith, below))) all
  where
    rest : ℕ → List ℕ
    rest count = filter f (range_with_len (a + 1) count)

    by_test : (b : Bool) → (length (rest n) ≡ n → length (rest k) ≡ k) → length (cond b (a ∷ rest n) (rest n)) ≡ suc n
        → length (cond b (a ∷ rest k) (rest k)) ≡ suc k
    by_test true later whole = ap suc (later (omega (arith, whole)))
    by_test false later whole =
        absurd (omega (arith, whole, length-filter-le f (range_with_len (a + 1) n), length-range_with_len (a + 1) n))

-- there are few values
pub positives_few : (m : ModelView) (p : ℕ) → IsSound m → p < length m.params → length (positive_values m p) ≤ 4095
positives_few m p sound within =
    let few : length (param_at m.params p).values ≤ 4095 = (sound.params p no_param within).few in
    omega (arith, few, length-filter-le (λ v. not (value_at m p v).negative) (value_numbers m p), length-range_with_len 0 (length (param_at m.params p).values))

-- the digit of a value that isn't negative
pub digit_counted : (m : ModelView) (p v : ℕ) → v < length (param_at m.params p).values → (value_at m p v).negative ≡ false
    → length (filter (λ w. not (value_at m p w).negative) (range_with_len 0 v)) ≡ place_of (positive_values m p) v
digit_counted m p v exists sign =
    sym (place_before (λ w. not (value_at m p w).negative) 0 v (length (param_at m.params p).values) v (zero-add v) (ap not sign) exists)

pub digit_is_value : (m : ModelView) (p v : ℕ) → v < length (param_at m.params p).values → (value_at m p v).negative ≡ false
    → length (positive_values m p) ≡ length (param_at m.params p).values → v ≡ place_of (positive_values m p) v
digit_is_value m p v exists sign all =
    sym (all_before (λ w. not (value_at m p w).negative) 0 v (length (param_at m.params p).values) (omega (arith, exists)) all)
    ∙ digit_counted m p v exists sign

pub positives_listed : (m : ModelView) (p : ℕ) → p < length m.params → get_or (plan_of m).positives p [] ≡ positive_values m p
positives_listed m p within = get_or-map-range_with_len (positive_values m) 0 (length m.params) p p [] within (zero-add p)

pub radix_is : (m : ModelView) (plan : PlanView) (p count : ℕ) → plan ≡ plan_of m → p < length m.params → count ≡ length (values_in plan Positive p)
    → count ≡ length (positive_values m p)
radix_is m plan p count planned within is = is ∙ ap (λ (pl : PlanView). length (values_in pl Positive p)) planned ∙ ap length (positives_listed m p within)

-- the value of a valid row is negative exactly at the parameters with negative values
sign_is : (m : ModelView) (row : List (Option ℕ)) (p : ℕ) → ValidRow m row → p < length m.params
    → is_negative (plan_of m) p (value_in row p) ≡ is_among (negatives m row) p
sign_is m row p is within =
    same_answer (is_negative (plan_of m) p (value_in row p)) (is_among (negatives m row) p)
    (λ negative. among_has (negatives m row) p (own_negative m row p is within negative)) (λ among.
    let at = of_negatives m row p (of_among (negatives m row) p among) in
    ap (λ ns. is_among ns (value_in row p)) (negatives_listed m p within)
    ∙ among_has (negative_values m p) (value_in row p)
    (has_filter (λ w. (value_at m p w).negative) (value_numbers m p) (value_in row p) (has_numbers m p (value_in row p) (negative_exists m p (value_in row p) at.negative))
    at.negative))

not_negative : (m : ModelView) (row : List (Option ℕ)) (p : ℕ) → ValidRow m row → p < length m.params → is_among (negatives m row) p ≡ false
    → (value_at m p (value_in row p)).negative ≡ false
not_negative m row p is within none =
    false_from_ne_true (value_at m p (value_in row p)).negative (λ negative.
    false≢true (sym none ∙ among_has (negatives m row) p
    (has_negatives m row p (record { within = within; assigned = row_is_assigned m row p is.complete within; negative = negative }))))

-- the digit of the fixed parameter
pub fixed_digit : (m : ModelView) (row : List (Option ℕ)) (p : ℕ) → is_fixed (slice_of m row) p ≡ true
    → (place_of (own_slice m row p) (value_in row p) ≡ 0) × (length (own_slice m row p) ≡ 1)
fixed_digit m row p fixed = by_slice (negatives m row) fixed
  where
    by_slice : (ns : List ℕ) → is_fixed (slice_by row ns) p ≡ true
        → (place_of (values_in (plan_of m) (slice_by row ns) p) (value_in row p) ≡ 0) × (length (values_in (plan_of m) (slice_by row ns) p) ≡ 1)
    by_slice [] fixed = absurd (false≢true fixed)
    by_slice (q ∷ ns) fixed =
        let only : cond (p == q) (value_in row q ∷ []) (get_or (plan_of m).positives p []) ≡ value_in row q ∷ [] =
        ap (λ b. cond b (value_in row q ∷ []) (get_or (plan_of m).positives p [])) fixed in
        let same : value_in row q ≡ value_in row p = ap (value_in row) (sym (eqb-true p q fixed)) in (
          ap (λ vs. place_of vs (value_in row p)) only ∙ ap (λ b. cond b 0 1) (eq-eqb (value_in row q) (value_in row p) same),
          ap length only,
        )

-- the values of the others, none of which is negative
pub plain_digit : (m : ModelView) (row : List (Option ℕ)) (p : ℕ) → ValidRow m row → p < length m.params → is_fixed (slice_of m row) p ≡ false
    → (own_slice m row p ≡ positive_values m p) × ((value_at m p (value_in row p)).negative ≡ false)
plain_digit m row p is within free = by_slice (negatives m row) is.few free (not_negative m row p is within)
  where
    by_slice : (ns : List ℕ) → length ns ≤ 1 → is_fixed (slice_by row ns) p ≡ false
        → (is_among ns p ≡ false → (value_at m p (value_in row p)).negative ≡ false)
        → (values_in (plan_of m) (slice_by row ns) p ≡ positive_values m p) × ((value_at m p (value_in row p)).negative ≡ false)
    by_slice [] few free sign = (positives_listed m p within, sign refl)
    by_slice (q ∷ r ∷ ns) few free sign = absurd (omega (arith, few))
    by_slice (q ∷ []) few free sign = (
      ap (λ b. cond b (value_in row q ∷ []) (get_or (plan_of m).positives p [])) free ∙ positives_listed m p within,
      sign (ap (λ b. b || false) (ne_eqb q p (λ same. false≢true (sym free ∙ eq-eqb p q (sym same))))),
    )

-- one digit more
pub put_more : (m : ModelView) (row : List (Option ℕ)) (p : ℕ) (digit : Digit) (digits : List Digit) → p < 256 → ArePut m row p digits → IsDigit m row p digit
    → ArePut m row (p + 1) (set digits p digit)
put_more m row p digit digits below are is = record {
  room = length-set digits p digit ∙ are.room;
  each =
      λ q other within.
      elim (cases_eq q p) [
        | inl same ↦
            subst (λ k. IsDigit m row k (get_or (set digits p digit) k other)) (sym same)
            (subst (IsDigit m row p) (sym (get_or-set_same digits p digit other (omega (arith, below, are.room)))) is)
        | inr apart ↦ subst (IsDigit m row q) (sym (get_or-set_other digits p q digit other apart)) (are.each q other (omega (arith, within, apart)))
      ];
}

-- one member more
placing_more : (values : ℕ → List ℕ) (row : List (Option ℕ)) (members : List ℕ) (i number p place_there radix : ℕ) → i < length members
    → p ≡ get_or members i 0 → place_there ≡ place_of (values p) (value_in row p) → radix ≡ length (values p)
    → IsPlacing values row members i number → IsPlacing values row members (i + 1) (number * radix + place_there)
placing_more values row members i number p place_there radix within is there many placing = more ∙ placing
  where
    rest : List ℕ
    rest = drop (i + 1) members

    next : drop i members ≡ p ∷ rest
    next = drop-cons members i 0 within ∙ ap (λ k. get_or members i 0 ∷ drop k members) (sym (add-one i)) ∙ ap (λ q. q ∷ rest) (sym is)

    sums : (n r d w k : ℕ) → (n * r + d) * w + k ≡ n * (r * w) + (d * w + k)
    sums n r d w k = grind arith

    more : (number * radix + place_there) * ways values rest + place values rest (map (value_in row) rest)
        ≡ number * ways values (drop i members) + place values (drop i members) (map (value_in row) (drop i members))
    more =
        ap (λ d. (number * radix + d) * ways values rest + place values rest (map (value_in row) rest)) there
        ∙ ap (λ r. (number * r + place_of (values p) (value_in row p)) * ways values rest + place values rest (map (value_in row) rest)) many
        ∙ sums number (length (values p)) (place_of (values p) (value_in row p)) (ways values rest) (place values rest (map (value_in row) rest))
        ∙ ap (λ ms. number * ways values ms + place values ms (map (value_in row) ms)) (sym next)

-- what is left is there
some_left : (values : ℕ → List ℕ) (members : List ℕ) (i : ℕ) → 0 < ways values members → 0 < ways values (drop i members)
some_left values members zero some = some
some_left values [] (suc i) some = some
some_left values (p ∷ members) (suc i) some = some_left values members i (pos_right_of_mul (length (values p)) (ways values members) some)

pub placing_within : (values : ℕ → List ℕ) (row : List (Option ℕ)) (members : List ℕ) (i number : ℕ) → 0 < ways values members
    → IsPlacing values row members i number → number ≤ place values members (map (value_in row) members)
placing_within values row members i number some placing =
    most number (ways values (drop i members)) (place values (drop i members) (map (value_in row) (drop i members))) _ (some_left values members i some) placing
  where
    most : (n w k whole : ℕ) → 0 < w → n * w + k ≡ whole → n ≤ whole
    most n (suc w) k whole some is = let more : n * suc w ≡ n + n * w = grind arith in omega (arith, is, more)
    most n zero k whole some is = absurd (omega (arith, some))

pub placing_end : (values : ℕ → List ℕ) (row : List (Option ℕ)) (members : List ℕ) (i number : ℕ) → length members ≤ i
    → IsPlacing values row members i number → number ≡ place values members (map (value_in row) members)
placing_end values row members i number past placing =
    let last : number ≡ number * 1 + 0 = omega arith in
    last ∙ ap (λ ms. number * ways values ms + place values ms (map (value_in row) ms)) (sym (drop_all i members past)) ∙ placing

-- a row's own value is one of its slice
own_among : (m : ModelView) (row : List (Option ℕ)) (p : ℕ) → ValidRow m row → p < length m.params → is_among (own_slice m row p) (value_in row p) ≡ true
own_among m row p is within =
    by_slice (negatives m row) is.few (sign_is m row p is within)
    (sign_of m p (value_in row p) within (value_of m row p (row_has_value m row p is.complete within)).exists)
  where
    plan : PlanView
    plan = plan_of m

    v : ℕ
    v = value_in row p

    positives : List ℕ
    positives = get_or plan.positives p []

    by_slice : (ns : List ℕ) → length ns ≤ 1 → is_negative plan p v ≡ is_among ns p → is_value plan p v ≡ true
        → is_among (values_in plan (slice_by row ns) p) v ≡ true
    by_slice [] few sign value = or_left (is_among positives v) (is_negative plan p v) sign value
    by_slice (q ∷ r ∷ ns) few sign value = absurd (omega (arith, few))
    by_slice (q ∷ []) few sign value =
        elim (cases_eq p q) [
          | inl same ↦
              ap (λ b. is_among (cond b (value_in row q ∷ []) positives) v) (eq-eqb p q same)
              ∙ ap (λ b. b || false) (eq-eqb (value_in row q) v (ap (value_in row) (sym same)))
          | inr apart ↦
              ap (λ b. is_among (cond b (value_in row q ∷ []) positives) v) (ne_eqb p q apart)
              ∙ or_left (is_among positives v) (is_negative plan p v) (sign ∙ ap (λ b. b || false) (ne_eqb q p (λ same. apart (sym same)))) value
        ]

-- so there are choices in its slice
some_ways : (m : ModelView) (row : List (Option ℕ)) (set : List ℕ) (p : ℕ) → ValidRow m row → RisesFrom p (length m.params) set → 0 < ways (own_slice m row) set
some_ways m row [] p is rises = omega arith
some_ways m row (q ∷ set) p is rises =
    positive (length (own_slice m row q)) (ways (own_slice m row) set)
    (let inside = slice_get_within (own_slice m row q) (place_of (own_slice m row q) (value_in row q)) (value_in row q)
    (slice_get-place_of (own_slice m row q) (value_in row q) (own_among m row q is rises.1)) in omega (arith, inside))
    (some_ways m row set (q + 1) is rises.2)
  where
    positive : (a b : ℕ) → 0 < a → 0 < b → 0 < a * b
    positive a b first second = grind arith

-- the slice of a row's own values is the row's, where the set has tuples there
given_slice : (m : ModelView) (row : List (Option ℕ)) (ns set : List ℕ) (p : ℕ) → length ns ≤ 1 → RisesFrom p (length m.params) set
    → ((q : ℕ) → q < length m.params → is_negative (plan_of m) q (value_in row q) ≡ is_among ns q) → has_part set (slice_by row ns) ≡ true
    → slice_given (plan_of m) set (own_values set row) ≡ slice_by row ns
given_slice m row (n ∷ k ∷ ns) set p few rises sign part = absurd (omega (arith, few))
given_slice m row [] [] p few rises sign part = refl
given_slice m row [] (q ∷ set) p few rises sign part =
    ap (λ b. cond b (Negative q (value_in row q)) (slice_given (plan_of m) set (own_values set row))) (sign q rises.1)
    ∙ given_slice m row [] set (q + 1) few rises.2 sign refl
given_slice m row (n ∷ []) [] p few rises sign part = absurd (false≢true part)
given_slice m row (n ∷ []) (q ∷ set) p few rises sign part =
    elim (cases_eq q n) [
      | inl same ↦
          ap (λ b. cond b (Negative q (value_in row q)) (slice_given (plan_of m) set (own_values set row)))
          (sign q rises.1 ∙ ap (λ b. b || false) (eq-eqb n q (sym same)))
          ∙ ap (λ r. Negative r (value_in row r)) same
      | inr apart ↦
          ap (λ b. cond b (Negative q (value_in row q)) (slice_given (plan_of m) set (own_values set row)))
          (sign q rises.1 ∙ ap (λ b. b || false) (ne_eqb n q (λ same. apart (sym same))))
          ∙ given_slice m row (n ∷ []) set (q + 1) few rises.2 sign (sym (ap (λ b. b || is_among set n) (ne_eqb q n apart)) ∙ part)
    ]

own_slice_is : (m : ModelView) (row : List (Option ℕ)) → ValidRow m row → IsOwnSlice (plan_of m) (slice_of m row)
own_slice_is m row is = by_slice (negatives m row) (λ p has.
    let at = of_negatives m row p has in (at.within, sign_is m row p is at.within ∙ among_has (negatives m row) p has))
  where
    by_slice : (ns : List ℕ) → ((p : ℕ) → Has ns p → (p < length m.params) × (is_negative (plan_of m) p (value_in row p) ≡ true))
        → IsOwnSlice (plan_of m) (slice_by row ns)
    by_slice [] each = tt
    by_slice (q ∷ ns) each =
        let first = each q (inl refl) in (omega (arith, first.0, length-map-range_with_len (positive_values m) 0 (length m.params)), first.1)

-- the place of a row's own values in a set that has tuples in its slice
pub record OwnPlace (m : ModelView) (i : ℕ) (row : List (Option ℕ)) (plan : PlanView) (members : List ℕ) (slice : Slice) : Type 0 where
  pub exist : All (λ p. p < length m.params) members
  pub own : IsOwnSlice plan slice
  pub part : has_part (set_at plan i) slice ≡ true
  pub some : 0 < ways (own_slice m row) members
  pub few : start_of plan (set_at plan i) slice + place (own_slice m row) members (own_values members row) < 2 ^ 26
  pub is : IsServedRank m (set_at (plan_of m) i) row (Some (start_of plan (set_at plan i) slice + place (own_slice m row) members (own_values members row)))

pub own_place : (m : ModelView) (plan : PlanView) (i : ℕ) (row : List (Option ℕ)) (members : List ℕ) (slice : Slice) → ChosenFrom m plan i row members
    → IsKept plan → slice ≡ slice_of m row → has_part members slice ≡ true → OwnPlace m i row plan members slice
own_place m plan i row members slice from kept own part =
    subst (λ ms. OwnPlace m i row plan ms slice) (sym from.listed)
    (subst (λ pl. OwnPlace m i row pl (set_at pl i) slice) (sym from.planned)
    (subst (λ s. OwnPlace m i row (plan_of m) (set_at (plan_of m) i) s) (sym own) core))
  where
    whole : PlanView
    whole = plan_of m

    set : List ℕ
    set = set_at whole i

    chosen : List ℕ
    chosen = own_values set row

    rises : RisesFrom 0 (length m.params) set
    rises = demanded_rise m i [] from.within

    has : has_part set (slice_of m row) ≡ true
    has = ap (λ s. has_part set s) (sym own) ∙ ap (λ ms. has_part ms slice) (sym (from.listed ∙ ap (λ p. set_at p i) from.planned)) ∙ part

    number : ℕ
    number = start_of whole set (slice_of m row) + place (own_slice m row) set chosen

    rank : rank_of whole set chosen ≡ number
    rank = ap (λ s. start_of whole set s + place (values_in whole s) set chosen)
        (given_slice m row (negatives m row) set 0 from.is.few rises (λ q within. sign_is m row q from.is within) has)

    long : length whole.positives ≡ length m.params
    long = length-map-range_with_len (positive_values m) 0 (length m.params)

    here : slice_get (tuples_of m set) number ≡ Some (own_tuple m set row)
    here =
        let rises_there : RisesFrom 0 (length whole.positives) set = subst (λ n. RisesFrom 0 n set) (sym long) rises in
        ap (slice_get (tuples_of m set)) (sym rank)
        ∙ slice_get-tuples_of m whole set (rank_of whole set chosen) chosen refl rises_there
        (slice_get-rank_of whole set chosen (length m.params) rises (own_choice m row set from.is rises))

    within : i < length whole.sets
    within = from.within

    small : rank_of whole set chosen < 2 ^ 26
    small = rank_within whole i chosen (length m.params) (subst IsKept from.planned kept) within rises (own_choice m row set from.is rises)

    core : OwnPlace m i row whole set (slice_of m row)
    core = record {
      exist = rises_within set 0 (length m.params) rises;
      own = own_slice_is m row from.is;
      part = has;
      some = some_ways m row set 0 from.is rises;
      few = omega (arith, small, rank);
      is = own_rank m row i number from.is from.within has here;
    }

-- the value of a valid row exists
pub own_exists : (m : ModelView) (row : List (Option ℕ)) (p : ℕ) → ValidRow m row → p < length m.params
    → value_in row p < length (param_at m.params p).values
own_exists m row p is within = (value_of m row p (row_has_value m row p is.complete within)).exists

-- the digit of one more member
pub record IsJoined (m : ModelView) (row : List (Option ℕ)) (members : List ℕ) (i number radix there : ℕ) : Type 0 where
  pub placing : IsPlacing (own_slice m row) row members (i + 1) (number * radix + there)
  pub few : number * radix + there < 2 ^ 26

pub joined : (m : ModelView) (row : List (Option ℕ)) (members : List ℕ) (i d number radix there : ℕ) → radix ≡ length (own_slice m row (get_or members i d))
    → there ≡ place_of (own_slice m row (get_or members i d)) (value_in row (get_or members i d)) → i < length members
    → IsPlacing (own_slice m row) row members i number → 0 < ways (own_slice m row) members
    → place (own_slice m row) members (map (value_in row) members) < 2 ^ 26 → IsJoined m row members i number radix there
joined m row members i d number radix there many at within placing some few =
    let more = placing_more (own_slice m row) row members i number (get_or members i d) there radix within (get_or_default members i d 0 within) at many placing in
    let most = placing_within (own_slice m row) row members (i + 1) (number * radix + there) some more in
    record { placing = more; few = omega (arith, most, few) }

-- the same by the digits of a row
pub digit_joined : (m : ModelView) (row : List (Option ℕ)) (members : List ℕ) (digits : List Digit) (other : Digit) (i d number radix there : ℕ)
    → radix ≡ (get_or digits (get_or members i d) other).radix → there ≡ (get_or digits (get_or members i d) other).place
    → All (λ p. p < length m.params) members → AreDigits m row digits → i < length members → IsPlacing (own_slice m row) row members i number
    → 0 < ways (own_slice m row) members → place (own_slice m row) members (map (value_in row) members) < 2 ^ 26
    → IsJoined m row members i number radix there
digit_joined m row members digits other i d number radix there many at exist are within placing some few =
    let is = are.0.each (get_or members i d) other (exist i d within) in
    joined m row members i d number radix there (many ∙ is.radix) (at ∙ is.place) within placing some few

-- the same, as a call knows it
pub own_place_of : (m : ModelView) (plan : PlanView) (i : ℕ) (row : List (Option ℕ)) (members : List ℕ) (slice : Slice) (part : Bool) → plan ≡ plan_of m
    → i < length (demanded_sets m) → is_valid m row ≡ true → members ≡ set_at plan i → IsKept plan → slice ≡ slice_of m row → part ≡ has_part members slice
    → part ≡ true → OwnPlace m i row plan members slice
own_place_of m plan i row members slice part planned within valid listed kept own told is =
    own_place m plan i row members slice (chosen_from m plan i row members planned within valid listed) kept own (sym told ∙ is)
