-- The tuples of a slice by their numbers: which of them cells contain.
use Rattle.std.proofs.Common.{inl, inr, ◌≡◌, ℕ, zero, suc, ◌+◌, ◌<◌, ◌≤◌, Bool, true, false, ◌||◌, not, List, [], ◌∷◌, ◌++◌, Option}
use Rattle.std.proofs.Common.{All, map, length, get_or, sum_by, ◌∙◌, refl, sym, subst, ap, arith, zero-add}
use Rattle.std.specs.Prelude.{◌==◌, take_while, if◌then◌else◌}
use Rattle.std.specs.List.{filter, flat_map, list_any, range_with_len}
use Rattle.std.proofs.lemmas.Bool.{cases_eq, cases_lt, false≢true, cases_Bool, eq-eqb}
use Rattle.std.proofs.lemmas.Bool.Decides.{nat_tests}
use Rattle.std.proofs.lemmas.List.{get_or-map, get_or_append_left, get_or-append-add, get_or_past}
use Rattle.std.proofs.lemmas.List.Elements.{All-append, All-cons, All-get_or, All-map, All-nil, All-weaker}
use Rattle.std.proofs.lemmas.List.Folds.{list_any-append}
use Rattle.std.proofs.lemmas.List.FromFn.{length-map-range_with_len, get_or-map-range_with_len}
use Rattle.std.proofs.lemmas.List.Sums.{sum_by-cons, take_while-cons}
use Rattle.std.proofs.Math.Bool.{or-true}
use Rattle.cov_model.specs.declared.slice.Slice.{Slice}
use Rattle.cov_model.specs.declared.slice.Slice.TheVariants.{Positive, Negative}
use Rattle.cov_model.specs.believed.Sound.{ModelView, param_at}
use Rattle.cov_model.specs.believed.Meaning.{value_at}
use Rattle.cov_model.specs.believed.Rows.{contains}
use Rattle.cov_model.specs.believed.Slices.{negative_values, positive_values, slices, value_numbers}
use Rattle.definitions.specs.believed.Demand.{demanded_sets, is_among, tuples_in}
use Rattle.definitions.specs.SliceRows.{IsSliceOf}
use Rattle.tuple_index.specs.Kept.{IsKept}
use Rattle.tuple_index.specs.Plan.{plan_of, tuple_cells}
use Rattle.tuple_index.specs.Places.{RisesFrom, has_part, value_lists, ways}
use Rattle.tuple_index.proofs.ListingLemmas.{rises_lower}
use Rattle.tuple_index.proofs.PlaceLemmas.{length-value_lists}
use Rattle.uncovered_table.specs.Bits.{tuple_count}
use Rattle.uncovered_table.specs.Digits.{cell_digit, is_own, number_of, own_values}
use Rattle.uncovered_table.specs.Places.{is_slice, set_at, slice_start, tuple_at}
use Rattle.uncovered_table.proofs.ColumnLemmas.{filter_no, filter_yes}
use Rattle.uncovered_table.proofs.DigitLemmas.{gives_at, is_number}
use Rattle.uncovered_table.proofs.HeldLemmas.{contains-tuple}
use Rattle.uncovered_table.proofs.PlaceLemmas.{set_rises}
use Rattle.uncovered_table.proofs.SliceLemmas.{length-tuples_in, own_negatives, own_slice, tuples_in-lists}

-- one of the lists has an item that passes
pub any_listed : {X : Type 0} (f : X → Bool) (g : ℕ → List X) (a n q : ℕ) → a ≤ q → q < a + n → list_any f (g q) ≡ true
    → list_any f (flat_map g (range_with_len a n)) ≡ true
any_listed f g a zero q least below here = absurd (omega (arith, least, below))
any_listed f g a (suc n) q least below here =
    list_any-append f (g a) (flat_map g (range_with_len (a + 1) n))
    ∙ elim (cases_eq a q) [
      | inl same ↦ ap (λ b. b || list_any f (flat_map g (range_with_len (a + 1) n))) (ap (λ r. list_any f (g r)) same ∙ here)
      | inr apart ↦ ap (λ b. list_any f (g a) || b) (any_listed f g (a + 1) n q (omega (arith, least, apart)) (omega (arith, below)) here)
          ∙ or-true (list_any f (g a))
    ]

-- a slice of the model is one of its slices
pub slice_listed : (m : ModelView) (slice : Slice) → IsSliceOf m slice → list_any (λ before. is_slice before slice) (slices m) ≡ true
slice_listed m Positive own = refl
slice_listed m (Negative q v) own =
    let among : is_among (negative_values m q) v ≡ true = ap (λ vs. is_among vs v) (sym (own_negatives m q own.0)) ∙ (own_slice m (Negative q v) own).1 in
    any_listed (λ before. is_slice before (Negative q v)) (λ p. map (λ w. Negative p w) (negative_values m p)) 0 (length m.params) q (omega arith)
    (omega (arith, own.0))
    (by_value (negative_values m q) ∙ among)
  where
    by_value : (vs : List ℕ) → list_any (λ before. is_slice before (Negative q v)) (map (λ w. Negative q w) vs) ≡ is_among vs v
    by_value [] = refl
    by_value (w ∷ vs) = rw (eq-eqb q q refl) (ap (λ b. (w == v) || b) (by_value vs))

-- two slices as a test
pub same_slice : (a b : Slice) → is_slice a b ≡ true → a ≡ b
same_slice Positive Positive same = refl
same_slice Positive (Negative q w) same = absurd (false≢true same)
same_slice (Negative p v) Positive same = absurd (false≢true same)
same_slice (Negative p v) (Negative q w) same =
    let first : p ≡ q = grind (arith, nat_tests) in
    let second : v ≡ w = grind (arith, nat_tests) in
    ap (λ r. Negative r v) first ∙ ap (λ u. Negative q u) second

-- what stands after the lists of the slices before
after_slices : {X : Type 0} (f : Slice → List X) (slice : Slice) (all : List Slice) (j : ℕ) (d : X) → list_any (λ before. is_slice before slice) all ≡ true
    → j < length (f slice)
    → get_or (flat_map f all) (sum_by (λ before. length (f before)) (take_while (λ before. not (is_slice before slice)) all) + j) d ≡ get_or (f slice) j d
after_slices f slice [] j d listed within = absurd (false≢true listed)
after_slices f slice (first ∷ all) j d listed within =
    let size : Slice → ℕ = λ before. length (f before) in
    let goes_on : Slice → Bool = λ before. not (is_slice before slice) in
    let opened = take_while-cons goes_on first all in
    elim (cases_Bool (is_slice first slice)) [
      | inl here ↦
          let same = same_slice first slice here in
          let none : sum_by size (take_while goes_on (first ∷ all)) ≡ 0 =
          ap (sum_by size) (opened ∙ ap (λ b. if not b then first ∷ take_while goes_on all else []) here) in
          let inside : j < length (f first) = subst (λ s. j < length (f s)) (sym same) within in
          ap (λ n. get_or (f first ++ flat_map f all) (n + j) d) none ∙ ap (λ n. get_or (f first ++ flat_map f all) n d) (zero-add j)
          ∙ get_or_append_left (f first) (flat_map f all) d j inside ∙ ap (λ s. get_or (f s) j d) same
      | inr other ↦
          let rest = after_slices f slice all j d (subst (λ b. (b || list_any (λ before. is_slice before slice) all) ≡ true) other listed) within in
          let before = sum_by size (take_while goes_on all) in
          let more : sum_by size (take_while goes_on (first ∷ all)) ≡ length (f first) + before =
          ap (sum_by size) (opened ∙ ap (λ b. if not b then first ∷ take_while goes_on all else []) other) ∙ sum_by-cons size first (take_while goes_on all) in
          let place : sum_by size (take_while goes_on (first ∷ all)) + j ≡ length (f first) + (before + j) = omega (arith, more) in
          ap (λ n. get_or (f first ++ flat_map f all) n d) place ∙ get_or-append-add (f first) (flat_map f all) (before + j) d ∙ rest
    ]

-- the tuple of a place
pub tuple_at_place : (m : ModelView) (slice : Slice) (set j : ℕ) → IsSliceOf m slice → j < tuple_count m slice set
    → tuple_at m (set, slice_start m (set_at m set) slice + j) ≡ get_or (tuples_in m (set_at m set) slice) j []
tuple_at_place m slice set j own within = after_slices (tuples_in m (set_at m set)) slice (slices m) j [] (slice_listed m slice own) within

-- a choice has a value for each member
lists_long : (values : ℕ → List ℕ) (set : List ℕ) → All (λ list. length list ≡ length set) (value_lists values set)
lists_long values [] = All-cons (λ list. length list ≡ 0) [] [] refl (All-nil (λ list. length list ≡ 0))
lists_long values (p ∷ set) = each (lists_long values set) (values p)
  where
    each : All (λ list. length list ≡ length set) (value_lists values set) → (vs : List ℕ)
        → All (λ list. length list ≡ length (p ∷ set)) (flat_map (λ v. map (λ rest. v ∷ rest) (value_lists values set)) vs)
    each before [] = All-nil (λ list. length list ≡ length (p ∷ set))
    each before (v ∷ vs) =
        All-append (λ list. length list ≡ length (p ∷ set)) (map (λ rest. v ∷ rest) (value_lists values set))
        (flat_map (λ v. map (λ rest. v ∷ rest) (value_lists values set)) vs)
        (All-map (λ list. length list ≡ length (p ∷ set)) (λ rest. v ∷ rest) (value_lists values set)
        (All-weaker (λ list. length list ≡ length set) (λ rest. length (v ∷ rest) ≡ length (p ∷ set)) (λ rest long. ap suc long)
        (value_lists values set) before))
        (each before vs)

-- the values that pass a test rise
pub rises_passing : (f : ℕ → Bool) (a n : ℕ) → RisesFrom a (a + n) (filter f (range_with_len a n))
rises_passing f a zero = tt
rises_passing f a (suc n) =
    let end : a + 1 + n ≡ a + suc n = omega arith in
    let rest = subst (λ e. RisesFrom (a + 1) e (filter f (range_with_len (a + 1) n))) end (rises_passing f (a + 1) n) in
    elim (cases_Bool (f a)) [
      | inl passes ↦ subst (RisesFrom a (a + suc n)) (sym (filter_yes f a (range_with_len (a + 1) n) passes)) (omega arith, omega arith, rest)
      | inr fails ↦ subst (RisesFrom a (a + suc n)) (sym (filter_no f a (range_with_len (a + 1) n) fails))
          (rises_lower (filter f (range_with_len (a + 1) n)) (a + 1) a (a + suc n) (omega arith) rest)
    ]

positives_past : (m : ModelView) (p : ℕ) → length m.params ≤ p → get_or (plan_of m).positives p [] ≡ []
positives_past m p past =
    let long : length (plan_of m).positives ≡ length m.params = length-map-range_with_len (positive_values m) 0 (length m.params) in
    get_or_past (plan_of m).positives p [] (omega (arith, long, past))

-- the one value of a range
one_value : (a n v : ℕ) → a ≤ v → v < a + n → filter (λ w. w == v) (range_with_len a n) ≡ v ∷ []
one_value a zero v least below = absurd (omega (arith, least, below))
one_value a (suc n) v least below =
    elim (cases_eq a v) [
      | inl here ↦
          let test : (a == v) ≡ true = grind (arith, nat_tests) in
          filter_yes (λ w. w == v) a (range_with_len (a + 1) n) test ∙ ap (λ ws. a ∷ ws) (no_value (a + 1) n (omega (arith, here))) ∙ ap (λ w. w ∷ []) here
      | inr apart ↦
          let test : (a == v) ≡ false = grind (arith, nat_tests) in
          filter_no (λ w. w == v) a (range_with_len (a + 1) n) test ∙ one_value (a + 1) n v (omega (arith, least, apart)) (omega (arith, below))
    ]
  where
    no_value : (a n : ℕ) → v < a → filter (λ w. w == v) (range_with_len a n) ≡ []
    no_value a zero above = refl
    no_value a (suc n) above =
        let test : (a == v) ≡ false = grind (arith, nat_tests) in
        filter_no (λ w. w == v) a (range_with_len (a + 1) n) test ∙ no_value (a + 1) n (omega (arith, above))

-- a parameter's values in the slice, in order
pub own_passing : (m : ModelView) (slice : Slice) (p : ℕ) → IsSliceOf m slice → p < length m.params
    → own_values m slice p ≡ filter (is_own m slice p) (value_numbers m p)
own_passing m Positive p own within = get_or-map-range_with_len (positive_values m) 0 (length m.params) p p [] within (zero-add p)
own_passing m (Negative q v) p own within =
    let values : Bool → List ℕ = λ b. if b then v ∷ [] else get_or (plan_of m).positives p [] in
    let passing : Bool → List ℕ = λ b. filter (λ w. if b then w == v else not (value_at m p w).negative) (value_numbers m p) in
    elim (cases_eq p q) [
      | inl here ↦
          let test : (p == q) ≡ true = grind (arith, nat_tests) in
          let below : v < length (param_at m.params p).values = subst (λ r. v < length (param_at m.params r).values) (sym here) own.1 in
          ap values test ∙ sym (one_value 0 (length (param_at m.params p).values) v (omega arith) (omega (arith, below))) ∙ ap passing (sym test)
      | inr apart ↦
          let test : (p == q) ≡ false = grind (arith, nat_tests) in
          ap values test ∙ get_or-map-range_with_len (positive_values m) 0 (length m.params) p p [] within (zero-add p) ∙ ap passing (sym test)
    ]

pub own_rises : (m : ModelView) (slice : Slice) → IsSliceOf m slice → (p : ℕ) → (e : ℕ) × RisesFrom 0 e (own_values m slice p)
own_rises m slice own p =
    elim (cases_lt p (length m.params)) [
      | inl within ↦ (
        0 + length (param_at m.params p).values,
        subst (RisesFrom 0 (0 + length (param_at m.params p).values)) (sym (own_passing m slice p own within))
            (rises_passing (is_own m slice p) 0 (length (param_at m.params p).values)),
      )
      | inr past ↦ (0, subst (RisesFrom 0 0) (sym (none slice own past)) tt)
    ]
  where
    none : (slice : Slice) → IsSliceOf m slice → length m.params ≤ p → own_values m slice p ≡ []
    none Positive own past = positives_past m p past
    none (Negative q v) own past =
        let test : (p == q) ≡ false = (let below = own.0 in grind (arith, nat_tests)) in
        rw test (positives_past m p past)

-- cells contain the tuple of a place exactly if it is the number of their digits
pub contains_at : (m : ModelView) (slice : Slice) (cells : List (Option ℕ)) (set j : ℕ) → IsKept (plan_of m) → IsSliceOf m slice
    → set < length (demanded_sets m)
    → length cells ≡ length m.params → j < tuple_count m slice set
    → contains cells (tuple_at m (set, slice_start m (set_at m set) slice + j))
    ≡ is_number (number_of (own_values m slice) (cell_digit (own_values m slice) cells) (set_at m set)) j
contains_at m slice cells set j kept own exists long within =
    let members = set_at m set in
    let values = own_values m slice in
    let rises = set_rises m set kept exists in
    let many = length-tuples_in m members slice rises in
    elim (cases_Bool (has_part members slice)) [
      | inr none ↦ let empty = ap (λ b. if b then ways values members else 0) none in absurd (omega (arith, within, many, empty))
      | inl part ↦
          let all = ap (λ b. if b then ways values members else 0) part in
          let below : j < ways values members = omega (arith, within, many, all) in
          let inside : j < length (value_lists values members) = omega (arith, below, length-value_lists values members) in
          let choice = get_or (value_lists values members) j [] in
          let as_many : length choice ≡ length members = All-get_or (λ list. length list ≡ length members) (value_lists values members) j [] inside
          (lists_long values members) in
          ap (contains cells) (tuple_at_place m slice set j own within ∙ ap (λ ts. get_or ts j []) (tuples_in-lists m members slice rises part)
          ∙ get_or-map (tuple_cells m members) (value_lists values members) j [] [] inside)
          ∙ contains-tuple m cells members choice long rises as_many
          ∙ gives_at values cells members j (own_rises m slice own) below
    ]
