-- The law of growth: a suite covers what can be covered.
use Rattle.std.proofs.Common.{◌≡◌, ℕ, ◌+◌, ◌≤◌, Bool, true, false, not, List, [], ◌∷◌, length, sum_by, Option, All, inl, inr, ◌∙◌, sym, ap, subst, refl, arith}
use Rattle.std.specs.Prelude.{◌↔◌, ◌⊎◌, Contains, AllPairs}
use Rattle.std.specs.List.{Any, flat_map, list_any}
use Rattle.std.proofs.lemmas.Bool.{false≢true, false_from_ne_true, cases_Bool, and_from, not-true, not_from_false}
use Rattle.std.proofs.lemmas.List.Concat.{length-flat_map}
use Rattle.cov_model.specs.declared.slice.Slice.{Slice}
use Rattle.cov_model.specs.believed.Sound.{ModelView, IsSound}
use Rattle.cov_model.specs.believed.Rows.{contains}
use Rattle.cov_model.specs.believed.Valid.{is_valid, serves}
use Rattle.cov_model.specs.believed.Slices.{slices, slice_of, slice_values}
use Rattle.cov_model.proofs.CellLemmas.{contains-refl, length-slice_values}
use Rattle.definitions.specs.believed.Demand.{demanded_sets, demanded_tuples, tuples_in, tuples_of}
use Rattle.definitions.specs.believed.Completion.{completions, meets_rules, is_extendable}
use Rattle.definitions.specs.believed.Seeds.{is_same_row, kept_seeds}
use Rattle.definitions.specs.believed.Growth.{is_of_slice, growth}
use Rattle.definitions.specs.believed.Covering.{IsUnserved}
use Rattle.definitions.specs.Laws.{GrowthCovers, SuitesCover, SuitesHaveFewRows}
use Rattle.cov_model.specs.Preference.{OrdersValues}
use Rattle.definitions.specs.believed.Figures.{all_rows, is_served}
use Rattle.definitions.proofs.Members.{Has, has_contained, contains_member, all_members, of_flat, has_filter, any_member, of_any}
use Rattle.definitions.proofs.Distinct.{NoRepeats}
use Rattle.definitions.proofs.Choices.{choice_length, completion_is}
use Rattle.definitions.proofs.SliceLemmas.{IsSlice, is_slice, slice_is, slice_of_is, row_in_slice, choice_is_valid}
use Rattle.definitions.proofs.Serving.{choice_serves, served_extends, servable_are_extendable}
use Rattle.definitions.proofs.Once.{AreApart, apart_append, apart_pairs}
use Rattle.definitions.proofs.PartialRowLemmas.{same_row_is, of_slice-is}
use Rattle.definitions.proofs.Finishing.{IsSliceRow, slice_grows, seeds_of, met_in, kept_is, is_of_own_slice}
use Rattle.definitions.proofs.Totals.{count, counted, count_flat, count_sum, count_less, sum_less, sum_same, sum_plus, sum_swap, sum_ones, sum_once}
use Rattle.definitions.proofs.InPlay.{tuple_is, has_met, few_met}
use Rattle.definitions.proofs.MetOnce.{omitted_once}
use Rattle.definitions.proofs.Grown.{slices_once, rows_of_slice, rows_by_slice, of_rows, has_rows, IsDemanded, demanded_in, of_demanded, has_demanded, IsOmitted, of_omitted, has_omitted}

any_of_member : {X : Type 0} (P : X → Type 0) (xs : List X) (x : X) → Has xs x → P x → Any P xs
any_of_member P xs x has holds = let at = contains_member xs x has in (at.0, x, at.1, at.2, holds)

grown_valid : (m : ModelView) (pref : List (List ℕ)) (seeds : List (ℕ × List (Option ℕ))) → OrdersValues m pref
    → All (λ row. is_valid m row ≡ true) (growth m pref seeds).rows
grown_valid m pref seeds orders =
    all_members (λ row. is_valid m row ≡ true) (growth m pref seeds).rows (λ row has.
    let own = of_rows m pref seeds row orders has in
    choice_is_valid m own.slice row own.is own.row_of.choice own.row_of.meets)

-- a tuple that isn't extendable is served by no row, and the other way round
unserved : (m : ModelView) (tuple : List (Option ℕ)) → IsOmitted m tuple → (row : List (Option ℕ)) → serves m row tuple ≡ false
unserved m tuple is row =
    false_from_ne_true (serves m row tuple) (λ holds. false≢true (sym is.fails ∙ served_extends m row tuple is.demanded.few holds))

unservable : (m : ModelView) (tuple : List (Option ℕ)) → IsDemanded m tuple → ((row : List (Option ℕ)) → serves m row tuple ≡ false) → IsOmitted m tuple
unservable m tuple is none = record {
  demanded = is;
  fails = false_from_ne_true (is_extendable m (slice_of m tuple) tuple) (λ extends.
      let found = of_any (meets_rules m) (completions (slice_values m (slice_of m tuple)) tuple) extends in
      let chosen = completion_is (slice_values m (slice_of m tuple)) tuple found.0 found.1 in
      false≢true (sym (none found.0) ∙ choice_serves m found.0 tuple chosen.choice chosen.contained found.2));
}

-- an extendable tuple is served by a row of the suite
extendable_served : (m : ModelView) (pref : List (List ℕ)) (seeds : List (ℕ × List (Option ℕ))) (tuple : List (Option ℕ)) → IsSound m → OrdersValues m pref
    → IsDemanded m tuple
    → is_extendable m (slice_of m tuple) tuple ≡ true → Any (λ row. serves m row tuple ≡ true) (growth m pref seeds).rows
extendable_served m pref seeds tuple sound orders is extends =
    let slice = slice_of m tuple in
    let of = slice_of_is m tuple in
    let grown = slice_grows m pref seeds slice orders of in
    let holder = of_any (λ row. contains row tuple) (rows_of_slice m pref seeds slice)
    (grown.served tuple (has_met m slice is.set tuple sound is.demanded is.has) extends) in
    let row_of = grown.rows holder.0 holder.1 in
    any_of_member (λ row. serves m row tuple ≡ true) (growth m pref seeds).rows holder.0 (has_rows m pref seeds slice holder.0 of holder.1)
    (choice_serves m holder.0 tuple row_of.choice holder.2 row_of.meets)

grown_served : (m : ModelView) (pref : List (List ℕ)) (seeds : List (ℕ × List (Option ℕ))) (tuple : List (Option ℕ)) → IsSound m → OrdersValues m pref
    → IsDemanded m tuple
    → Any (λ row. serves m row tuple ≡ true) (growth m pref seeds).rows ↔ (Contains (growth m pref seeds).omitted tuple → ⊥)
grown_served m pref seeds tuple sound orders is = (
  λ some listed.
      let omitted = of_omitted m pref seeds tuple orders (has_contained (growth m pref seeds).omitted tuple listed) in
      false≢true (sym (unserved m tuple omitted some.1) ∙ some.4),
  λ unlisted. elim (cases_Bool (is_extendable m (slice_of m tuple) tuple)) [
    | inl extends ↦ extendable_served m pref seeds tuple sound orders is extends
    | inr fails ↦
        let omitted : IsOmitted m tuple = record { demanded = is; fails = fails } in
        absurd (unlisted (contains_member (growth m pref seeds).omitted tuple (has_omitted m pref seeds tuple sound orders omitted)))
  ],
)

-- each kept seed is in a row
seed_kept : (m : ModelView) (pref : List (List ℕ)) (seeds : List (ℕ × List (Option ℕ))) (seed : List (Option ℕ)) → OrdersValues m pref
    → Has (kept_seeds m seeds) seed
    → Any (λ row. contains row seed ≡ true) (growth m pref seeds).rows
seed_kept m pref seeds seed orders has =
    let slice = slice_of m seed in
    let of = slice_of_is m seed in
    let grown = slice_grows m pref seeds slice orders of in
    let own = has_filter (is_of_slice m slice) (kept_seeds m seeds) seed has (is_of_own_slice m seed) in
    let holder = of_any (λ row. contains row seed) (rows_of_slice m pref seeds slice) (grown.kept seed own) in
    any_of_member (λ row. contains row seed ≡ true) (growth m pref seeds).rows holder.0 (has_rows m pref seeds slice holder.0 of holder.1) holder.2

-- the kept seeds are shared out among the slices
few_seeds : (m : ModelView) (seeds : List (ℕ × List (Option ℕ))) → sum_by (λ slice. length (seeds_of m seeds slice)) (slices m) ≤ length (kept_seeds m seeds)
few_seeds m seeds =
    let kept = kept_seeds m seeds in
    let by_seed = sum_same (λ slice. length (seeds_of m seeds slice)) (λ slice. sum_by (λ seed. counted (is_of_slice m slice seed) 1) kept) (slices m)
    (λ slice. count_sum (is_of_slice m slice) kept) in
    let swapped = sum_swap (λ slice seed. counted (is_of_slice m slice seed) 1) (slices m) kept in
    let least = sum_less (λ seed. sum_by (λ slice. counted (is_of_slice m slice seed) 1) (slices m)) (λ seed. 1) kept
    (λ seed has. sum_once (λ slice. is_of_slice m slice seed) 1 (slices m) (slices_once m)
    (λ a b first second.
    let few = (kept_is m seeds seed has).few in
    sym (of_slice-is m a seed few first) ∙ of_slice-is m b seed few second)) in
    omega (arith, by_seed, swapped, least, sum_ones kept)

-- a tuple that no omitted one is the same as
abbrev is_unlisted : ModelView → List (List ℕ) → List (ℕ × List (Option ℕ)) → List (Option ℕ) → Bool
is_unlisted m pref seeds tuple = not (list_any (is_same_row tuple) (growth m pref seeds).omitted)

extendable_unlisted : (m : ModelView) (pref : List (List ℕ)) (seeds : List (ℕ × List (Option ℕ))) (tuple : List (Option ℕ)) → OrdersValues m pref
    → IsDemanded m tuple
    → is_extendable m (slice_of m tuple) tuple ≡ true → is_unlisted m pref seeds tuple ≡ true
extendable_unlisted m pref seeds tuple orders is extends =
    not_from_false (list_any (is_same_row tuple) (growth m pref seeds).omitted)
    (false_from_ne_true (list_any (is_same_row tuple) (growth m pref seeds).omitted) (λ listed.
    let found = of_any (is_same_row tuple) (growth m pref seeds).omitted listed in
    let omitted = of_omitted m pref seeds found.0 orders found.1 in
    let same : tuple ≡ found.0 = same_row_is tuple found.0 (is.long ∙ sym omitted.demanded.long) found.2 in
    false≢true (sym (ap (λ t. is_extendable m (slice_of m t) t) same ∙ omitted.fails) ∙ extends)))

-- the extendable tuples that the slices meet are demanded tuples outside the omission list
few_tuples : (m : ModelView) (pref : List (List ℕ)) (seeds : List (ℕ × List (Option ℕ))) → OrdersValues m pref
    → sum_by (λ slice. count (is_extendable m slice) (met_in m slice)) (slices m) ≤ count (is_unlisted m pref seeds) (demanded_tuples m)
few_tuples m pref seeds orders =
    let left = is_unlisted m pref seeds in
    let in_slice = sum_less (λ slice. count (is_extendable m slice) (met_in m slice))
    (λ slice. sum_by (λ set. count left (tuples_in m set slice)) (demanded_sets m)) (slices m)
    (λ slice in_slices.
    let is = is_slice m slice in_slices in
    let by_set = sum_less (λ set. count (is_extendable m slice) (tuples_in m set slice)) (λ set. count left (tuples_in m set slice)) (demanded_sets m)
    (λ set has_set. count_less (is_extendable m slice) left (tuples_in m set slice) (λ tuple has extends.
    let of = slice_is m slice tuple is (tuple_is m set slice tuple is has).belongs in
    extendable_unlisted m pref seeds tuple orders (demanded_in m set slice tuple is has_set has) (ap (λ s. is_extendable m s tuple) of.is ∙ extends))) in
    omega (arith, few_met m slice (is_extendable m slice), by_set)) in
    let swapped = sum_swap (λ slice set. count left (tuples_in m set slice)) (slices m) (demanded_sets m) in
    let whole = count_flat left (tuples_of m) (demanded_sets m)
    ∙ sum_same (λ set. count left (tuples_of m set)) (λ set. sum_by (λ slice. count left (tuples_in m set slice)) (slices m)) (demanded_sets m)
    (λ set. count_flat left (tuples_in m set) (slices m)) in
    omega (arith, in_slice, swapped, whole)

grown_few : (m : ModelView) (pref : List (List ℕ)) (seeds : List (ℕ × List (Option ℕ))) → OrdersValues m pref
    → length (growth m pref seeds).rows ≤ count (is_unlisted m pref seeds) (demanded_tuples m) + length (kept_seeds m seeds)
grown_few m pref seeds orders =
    let whole = ap length (rows_by_slice m pref seeds (slices m)) in
    let by_slice = length-flat_map (rows_of_slice m pref seeds) (slices m) in
    let each = sum_less (λ slice. length (rows_of_slice m pref seeds slice))
    (λ slice. length (seeds_of m seeds slice) + count (is_extendable m slice) (met_in m slice)) (slices m)
    (λ slice has. (slice_grows m pref seeds slice orders (is_slice m slice has)).few) in
    let parts = sum_plus (λ slice. length (seeds_of m seeds slice)) (λ slice. count (is_extendable m slice) (met_in m slice)) (slices m) in
    omega (arith, whole, by_slice, each, parts, few_seeds m seeds, few_tuples m pref seeds orders)

-- the rows are distinct: those of two slices belong to different slices
between_slices : (m : ModelView) (first second : Slice) (row other : List (Option ℕ)) → IsSlice m first → IsSlice m second → (first ≡ second → ⊥)
    → IsSliceRow m first row → IsSliceRow m second other → is_same_row row other ≡ false
between_slices m first second row other is_first is_second apart one two =
    false_from_ne_true (is_same_row row other) (λ same.
    let long = choice_length (slice_values m first) row one.choice ∙ length-slice_values m first ∙ sym
    (choice_length (slice_values m second) other two.choice ∙ length-slice_values m second) in
    let equal = same_row_is row other long same in
    let of_first = slice_is m first row is_first (row_in_slice m first row is_first one.choice) in
    let of_second = slice_is m second other is_second (row_in_slice m second other is_second two.choice) in
    apart (sym of_first.is ∙ ap (slice_of m) equal ∙ of_second.is))

rows_apart : (m : ModelView) (pref : List (List ℕ)) (seeds : List (ℕ × List (Option ℕ))) (parts : List Slice) → OrdersValues m pref → NoRepeats parts
    → ((slice : Slice) → Has parts slice → IsSlice m slice) → AreApart (flat_map (rows_of_slice m pref seeds) parts)
rows_apart m pref seeds [] orders once is = tt
rows_apart m pref seeds (slice ∷ parts) orders once is =
    let own = slice_grows m pref seeds slice orders (is slice (inl refl)) in
    apart_append (rows_of_slice m pref seeds slice) (flat_map (rows_of_slice m pref seeds) parts) own.apart
    (rows_apart m pref seeds parts orders once.1 (λ other has. is other (inr has)))
    (λ row other here there.
    let found = of_flat (rows_of_slice m pref seeds) parts other there in
    let is_found = is found.0 (inr found.1) in
    between_slices m slice found.0 row other (is slice (inl refl)) is_found (λ same. once.0 (subst (Has parts) (sym same) found.1)) (own.rows row here)
    ((slice_grows m pref seeds found.0 orders is_found).rows other found.2))

grown_distinct : (m : ModelView) (pref : List (List ℕ)) (seeds : List (ℕ × List (Option ℕ))) → OrdersValues m pref
    → AllPairs (λ a b. is_same_row a b ≡ false) (growth m pref seeds).rows
grown_distinct m pref seeds orders =
    apart_pairs (growth m pref seeds).rows
    (subst AreApart (sym (rows_by_slice m pref seeds (slices m))) (rows_apart m pref seeds (slices m) orders (slices_once m) (is_slice m)))

pub growth_covers : GrowthCovers
growth_covers m pref seeds sound orders = record {
  valid = grown_valid m pref seeds orders;
  distinct = grown_distinct m pref seeds orders;
  demanded = all_members (Contains (demanded_tuples m)) (growth m pref seeds).omitted
      (λ tuple has. contains_member (demanded_tuples m) tuple (has_demanded m tuple (of_omitted m pref seeds tuple orders has).demanded));
  once = omitted_once m pref seeds orders;
  omitted =
      all_members (λ tuple. Contains (growth m pref seeds).omitted tuple ↔ ((row : List (Option ℕ)) → serves m row tuple ≡ false)) (demanded_tuples m)
      (λ tuple has. (
        λ listed. unserved m tuple (of_omitted m pref seeds tuple orders (has_contained (growth m pref seeds).omitted tuple listed)),
        λ none. contains_member (growth m pref seeds).omitted tuple
            (has_omitted m pref seeds tuple sound orders (unservable m tuple (of_demanded m tuple has) none)),
      ));
  served =
      all_members (λ tuple. Any (λ row. serves m row tuple ≡ true) (growth m pref seeds).rows ↔ (Contains (growth m pref seeds).omitted tuple → ⊥))
      (demanded_tuples m)
      (λ tuple has. grown_served m pref seeds tuple sound orders (of_demanded m tuple has));
  kept = all_members (λ seed. Any (λ row. contains row seed ≡ true) (growth m pref seeds).rows) (kept_seeds m seeds) (λ seed has. seed_kept m pref seeds seed orders has);
  few = grown_few m pref seeds orders;
}

pub suites_cover : SuitesCover
suites_cover m pref seeds sound orders = record {
  valid = grown_valid m pref seeds orders;
  served = all_members (λ tuple. Any (λ row. serves m row tuple ≡ true) (growth m pref seeds).rows ⊎ IsUnserved m tuple) (demanded_tuples m) (λ tuple has.
      let is = of_demanded m tuple has in
      elim (cases_Bool (is_extendable m (slice_of m tuple) tuple)) [
        | inl extends ↦ inl (extendable_served m pref seeds tuple sound orders is extends)
        | inr fails ↦ inr (unserved m tuple (record { demanded = is; fails = fails }))
      ]);
}

-- a demanded tuple that isn't among the omitted ones is served by some row of the model
unlisted_served : (m : ModelView) (pref : List (List ℕ)) (seeds : List (ℕ × List (Option ℕ))) (tuple : List (Option ℕ)) → IsSound m → OrdersValues m pref
    → IsDemanded m tuple
    → is_unlisted m pref seeds tuple ≡ true → is_served m (all_rows m) tuple ≡ true
unlisted_served m pref seeds tuple sound orders is unlisted =
    servable_are_extendable m tuple sound is.few
    ∙ elim (cases_Bool (is_extendable m (slice_of m tuple) tuple)) [
      | inl extends ↦ extends
      | inr fails ↦
          let omitted = (growth m pref seeds).omitted in
          let listed = has_omitted m pref seeds tuple sound orders (record { demanded = is; fails = fails }) in
          let same = and_from (contains tuple tuple) (contains tuple tuple) (contains-refl tuple) (contains-refl tuple) in
          absurd (false≢true (sym (not-true (list_any (is_same_row tuple) omitted) unlisted) ∙ any_member (is_same_row tuple) omitted tuple listed same))
    ]

pub suites_have_few_rows : SuitesHaveFewRows
suites_have_few_rows m pref seeds sound orders =
    let served = count_less (is_unlisted m pref seeds) (is_served m (all_rows m)) (demanded_tuples m)
    (λ tuple has. unlisted_served m pref seeds tuple sound orders (of_demanded m tuple has)) in
    record { distinct = grown_distinct m pref seeds orders; few = omega (arith, served, grown_few m pref seeds orders) }
