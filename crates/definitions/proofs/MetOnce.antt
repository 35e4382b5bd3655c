-- Growth meets each demanded tuple of a slice once, and omits none twice.
use Rattle.std.proofs.Common.{◌≡◌, ℕ, suc, ◌+◌, ◌<◌, Bool, false, not, cond, List, [], ◌∷◌, map, length, get_or}
use Rattle.std.proofs.Common.{Option, Some, None, Less, Equal, inl, inr, ◌∙◌, sym, ap, subst, refl, arith, zero-add}
use Rattle.std.specs.Prelude.{AllPairs}
use Rattle.std.specs.List.{AllByRecursion, filter}
use Rattle.std.specs.List.Sorted.{IsStrictlySortedBy}
use Rattle.std.proofs.lemmas.Bool.{false_from_ne_true, cases_Bool, cases_eq}
use Rattle.std.proofs.lemmas.Cmp.{nat_list_cmp_total, tied_itself}
use Rattle.cov_model.specs.declared.slice.Slice.{Slice}
use Rattle.cov_model.specs.declared.slice.Slice.TheVariants.{Positive, Negative}
use Rattle.cov_model.specs.believed.Meaning.{value_at}
use Rattle.cov_model.specs.believed.Sound.{ModelView, param_at}
use Rattle.cov_model.specs.believed.Valid.{param_numbers}
use Rattle.cov_model.specs.believed.Slices.{slices, slice_of, slice_values, value_numbers}
use Rattle.cov_model.proofs.CellLemmas.{length-slice_values, slice_values-positive, slice_values-own, slice_values-other}
use Rattle.definitions.specs.believed.Demand.{is_among, choices, rising, demanded_sets, value_choices, tuples_in}
use Rattle.definitions.specs.believed.Completion.{column_order, is_extendable}
use Rattle.definitions.specs.believed.Seeds.{is_same_row}
use Rattle.definitions.specs.believed.Growth.{growth, sets_in_play, tuples_in_play}
use Rattle.cov_model.specs.Preference.{OrdersValues}
use Rattle.definitions.proofs.SetOrder.{lex, sorted_in_order}
use Rattle.definitions.proofs.Members.{Has, of_map, of_flat, has_filter, of_filter, among_has, of_among, same_answer}
use Rattle.definitions.proofs.Distinct.{NoRepeats, repeats_filter, repeats_range, repeats_map, repeats_flat}
use Rattle.definitions.proofs.SliceLemmas.{IsSlice, is_slice, slice_is, values_at, of_params}
use Rattle.definitions.proofs.Once.{AreApart, apart_pairs}
use Rattle.definitions.proofs.PartialRowLemmas.{same_row_is}
use Rattle.definitions.proofs.Finishing.{met_in, slice_grows}
use Rattle.definitions.proofs.Demanded.{of_in_order}
use Rattle.definitions.proofs.InPlay.{tuple_is, is_last, one_last, order_once, of_met}
use Rattle.definitions.proofs.Grown.{slices_once, omitted_in_slice, omitted_by_slice, of_omitted}

-- the demanded sets are distinct
sorted_once : (sets : List (List ℕ)) → IsStrictlySortedBy lex sets → NoRepeats sets
unfolding IsStrictlySortedBy
sorted_once [] sorted = tt
sorted_once (set ∷ sets) sorted = (above set sets sorted.0, sorted_once sets sorted.1)
  where
    above : (set : List ℕ) (sets : List (List ℕ)) → AllByRecursion (λ z. lex set z ≡ Less) sets → Has sets set → ⊥
    above set [] each has = has
    above set (other ∷ sets) each (inl same) = unequal (sym (tied_itself nat_list_cmp_total set) ∙ ap (lex set) (sym same) ∙ each.0)
      where
        unequal : Equal ≡ Less → ⊥
        unequal e = cc
    above set (other ∷ sets) each (inr has) = above set sets each.1 has

pub sets_once : (m : ModelView) → NoRepeats (demanded_sets m)
sets_once m = sorted_once (demanded_sets m) (sorted_in_order (map (rising m) (choices m)))

-- a demanded set is told by its members
same_filter : (f g : ℕ → Bool) (xs : List ℕ) → ((x : ℕ) → Has xs x → f x ≡ g x) → filter f xs ≡ filter g xs
same_filter f g [] same = refl
same_filter f g (x ∷ xs) same =
    ap (λ b. cond b (x ∷ filter f xs) (filter f xs)) (same x (inl refl)) ∙ ap (λ ys. cond (g x) (x ∷ ys) ys) (same_filter f g xs (λ y has. same y (inr has)))

members_are : (m : ModelView) (set : List ℕ) → Has (demanded_sets m) set → set ≡ filter (is_among set) (param_numbers m)
members_are m set has =
    let chosen = of_map (rising m) (choices m) set (of_in_order (map (rising m) (choices m)) set has) in
    let listed = same_filter (is_among chosen.0) (is_among (rising m chosen.0)) (param_numbers m) (λ p has. among_kept chosen.0 p has) in
    sym chosen.2 ∙ listed ∙ ap (λ s. filter (is_among s) (param_numbers m)) chosen.2
  where
    among_kept : (choice : List ℕ) (p : ℕ) → Has (param_numbers m) p → is_among choice p ≡ is_among (rising m choice) p
    among_kept choice p has =
        same_answer (is_among choice p) (is_among (rising m choice) p)
        (λ among. among_has (rising m choice) p (has_filter (is_among choice) (param_numbers m) p has among))
        (λ among. (of_filter (is_among choice) (param_numbers m) p (of_among (rising m choice) p among)).1)

-- a tuple is of one set
one_set : (m : ModelView) (slice : Slice) (first second : List ℕ) (tuple : List (Option ℕ)) → IsSlice m slice → Has (demanded_sets m) first
    → Has (demanded_sets m) second
    → Has (tuples_in m first slice) tuple → Has (tuples_in m second slice) tuple → first ≡ second
one_set m slice first second tuple is has_first has_second here there =
    let one = (tuple_is m first slice tuple is here).choice in
    let two = (tuple_is m second slice tuple is there).choice in
    members_are m first has_first
    ∙ same_filter (is_among first) (is_among second) (param_numbers m) (λ p has.
    let within = of_params m p has in
    let inside : p < length (slice_values m slice) = omega (arith, within, length-slice_values m slice) in
    ap (is_among first) (sym (zero-add p)) ∙ sym (one.given p inside) ∙ two.given p inside ∙ ap (is_among second) (zero-add p))
    ∙ sym (members_are m second has_second)

-- the value choices of a set are distinct
choices_once : (set : List ℕ) (p : ℕ) (lists : List (List ℕ)) → ((i : ℕ) → i < length lists → NoRepeats (get_or lists i []))
    → NoRepeats (value_choices set p lists)
choices_once set p [] each = (λ has. has, tt)
choices_once set p (values ∷ lists) each =
    let later = choices_once set (p + 1) lists (λ i within. each (suc i) (omega arith)) in
    elim (cases_Bool (is_among set p)) [
      | inl among ↦ rw among (repeats_flat (λ v. map (λ cells. Some v ∷ cells) (value_choices set (p + 1) lists)) values
          (λ v has. repeats_map (λ cells. Some v ∷ cells) (value_choices set (p + 1) lists) (same_rest (Some v)) later) apart (each 0 (omega arith)))
      | inr away ↦ rw away (repeats_map (λ cells. None ∷ cells) (value_choices set (p + 1) lists) (same_rest None) later)
    ]
  where
    same_rest : (cell : Option ℕ) (a b : List (Option ℕ)) → cell ∷ a ≡ cell ∷ b → a ≡ b
    same_rest cell a b same = cc

    same_first : (v w : ℕ) (a b : List (Option ℕ)) → Some v ∷ a ≡ Some w ∷ b → v ≡ w
    same_first v w a b same = cc

    apart : (v w : ℕ) (cells : List (Option ℕ)) → Has values v → Has values w → Has (map (λ cells. Some v ∷ cells) (value_choices set (p + 1) lists)) cells
        → Has (map (λ cells. Some w ∷ cells) (value_choices set (p + 1) lists)) cells → v ≡ w
    apart v w cells first second here there =
        let one = of_map (λ cells. Some v ∷ cells) (value_choices set (p + 1) lists) cells here in
        let two = of_map (λ cells. Some w ∷ cells) (value_choices set (p + 1) lists) cells there in
        same_first v w one.0 two.0 (one.2 ∙ sym two.2)

values_once : (m : ModelView) (slice : Slice) (p : ℕ) → IsSlice m slice → p < length m.params → NoRepeats (values_at m slice p)
values_once m Positive p is within =
    subst NoRepeats (sym (slice_values-positive m p within))
    (repeats_filter (λ v. not (value_at m p v).negative) (value_numbers m p) (repeats_range 0 (length (param_at m.params p).values)))
values_once m (Negative q v) p is within =
    elim (cases_eq p q) [
      | inl same ↦ subst NoRepeats (sym (ap (values_at m (Negative q v)) same ∙ slice_values-own m q v is.0)) (λ has. has, tt)
      | inr apart ↦ subst NoRepeats (sym (slice_values-other m q v p within apart))
          (repeats_filter (λ v. not (value_at m p v).negative) (value_numbers m p) (repeats_range 0 (length (param_at m.params p).values)))
    ]

pub tuples_once : (m : ModelView) (set : List ℕ) (slice : Slice) → IsSlice m slice → NoRepeats (tuples_in m set slice)
tuples_once m set Positive is =
    choices_once set 0 (slice_values m Positive) (λ p within. values_once m Positive p is (omega (arith, within, length-slice_values m Positive)))
tuples_once m set (Negative q v) is =
    let once = choices_once set 0 (slice_values m (Negative q v))
    (λ p within. values_once m (Negative q v) p is (omega (arith, within, length-slice_values m (Negative q v)))) in
    elim (cases_Bool (is_among set q)) [ inl among ↦ rw among once | inr away ↦ rw away tt ]

-- so growth meets no tuple twice
set_once : (m : ModelView) (slice : Slice) (p : ℕ) → IsSlice m slice → NoRepeats (tuples_in_play m slice p)
set_once m slice p is =
    repeats_flat (λ set. tuples_in m set slice) (sets_in_play m (column_order m slice) p) (λ set has. tuples_once m set slice is)
    (λ first second tuple has_first has_second here there.
    one_set m slice first second tuple is (of_filter (λ set. is_last m slice set p) (demanded_sets m) first has_first).0
    (of_filter (λ set. is_last m slice set p) (demanded_sets m) second has_second).0 here there)
    (repeats_filter (λ set. is_last m slice set p) (demanded_sets m) (sets_once m))

one_column : (m : ModelView) (slice : Slice) (p q : ℕ) (tuple : List (Option ℕ)) → IsSlice m slice → Has (tuples_in_play m slice p) tuple
    → Has (tuples_in_play m slice q) tuple → p ≡ q
one_column m slice p q tuple is here there =
    let one = of_flat (λ set. tuples_in m set slice) (sets_in_play m (column_order m slice) p) tuple here in
    let two = of_flat (λ set. tuples_in m set slice) (sets_in_play m (column_order m slice) q) tuple there in
    let first = of_filter (λ set. is_last m slice set p) (demanded_sets m) one.0 one.1 in
    let second = of_filter (λ set. is_last m slice set q) (demanded_sets m) two.0 two.1 in
    let same : one.0 ≡ two.0 = one_set m slice one.0 two.0 tuple is first.0 second.0 one.2 two.2 in
    one_last m slice two.0 p q (ap (λ set. is_last m slice set p) (sym same) ∙ first.1) second.1

pub met_once : (m : ModelView) (slice : Slice) → IsSlice m slice → NoRepeats (met_in m slice)
met_once m slice is =
    repeats_flat (tuples_in_play m slice) (column_order m slice) (λ p has. set_once m slice p is)
    (λ p q tuple first second here there. one_column m slice p q tuple is here there) (order_once m slice)

-- and omits none twice
of_omitted_in : (m : ModelView) (pref : List (List ℕ)) (seeds : List (ℕ × List (Option ℕ))) (slice : Slice) (tuple : List (Option ℕ)) → OrdersValues m pref
    → IsSlice m slice
    → Has (omitted_in_slice m pref seeds slice) tuple → slice_of m tuple ≡ slice
of_omitted_in m pref seeds slice tuple orders is has =
    let left = subst (λ tuples. Has tuples tuple) (slice_grows m pref seeds slice orders is).omitted has in
    let met = of_met m slice tuple (of_filter (λ tuple. not (is_extendable m slice tuple)) (met_in m slice) tuple left).0 in
    (slice_is m slice tuple is (tuple_is m met.set slice tuple is met.has).belongs).is

omitted_repeats : (m : ModelView) (pref : List (List ℕ)) (seeds : List (ℕ × List (Option ℕ))) → OrdersValues m pref → NoRepeats (growth m pref seeds).omitted
omitted_repeats m pref seeds orders =
    subst NoRepeats (sym (omitted_by_slice m pref seeds (slices m)))
    (repeats_flat (omitted_in_slice m pref seeds) (slices m)
    (λ slice has.
    let is = is_slice m slice has in
    subst NoRepeats (sym (slice_grows m pref seeds slice orders is).omitted)
    (repeats_filter (λ tuple. not (is_extendable m slice tuple)) (met_in m slice) (met_once m slice is)))
    (λ first second tuple has_first has_second here there.
    sym (of_omitted_in m pref seeds first tuple orders (is_slice m first has_first) here)
    ∙ of_omitted_in m pref seeds second tuple orders (is_slice m second has_second) there)
    (slices_once m))

apart_of_once : (n : ℕ) (rows : List (List (Option ℕ))) → NoRepeats rows → ((row : List (Option ℕ)) → Has rows row → length row ≡ n) → AreApart rows
apart_of_once n [] once long = tt
apart_of_once n (row ∷ rows) once long = (
  λ other has. false_from_ne_true (is_same_row row other) (λ same.
      once.0 (subst (Has rows) (sym (same_row_is row other (long row (inl refl) ∙ sym (long other (inr has))) same)) has)),
  apart_of_once n rows once.1 (λ other has. long other (inr has)),
)

pub omitted_once : (m : ModelView) (pref : List (List ℕ)) (seeds : List (ℕ × List (Option ℕ))) → OrdersValues m pref
    → AllPairs (λ a b. is_same_row a b ≡ false) (growth m pref seeds).omitted
omitted_once m pref seeds orders =
    apart_pairs (growth m pref seeds).omitted
    (apart_of_once (length m.params) (growth m pref seeds).omitted (omitted_repeats m pref seeds orders) (λ tuple has. (of_omitted m pref seeds tuple orders has).demanded.long))
