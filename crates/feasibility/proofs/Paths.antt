-- The paths of a tree for a tuple, and the values of the parameters without one there.
use Rattle.std.proofs.Common.{◌≡◌, ℕ, ◌+◌, ◌<◌, ◌≤◌, ◌^◌, Bool, true, false, not, ◌&&◌, List, [], ◌∷◌, find, length, Option, Some}
use Rattle.std.proofs.Common.{None, is_some, unwrap_or, get_or, ◌⊎◌, ◌∙◌, sym, ap, subst, refl, arith, inl, inr}
use Rattle.std.specs.List.{count_by, list_all, range_with_len}
use Rattle.std.specs.Option.{option_map_or}
use Rattle.std.proofs.Math.Numerals.{add-one}
use Rattle.std.proofs.lemmas.Option.{slice_get-get_or}
use Rattle.std.proofs.lemmas.Bool.{false≢true, cases_Bool, cases_eq, and_parts, cases_lt, false_from_ne_true, leb-true, not-false, not-true}
use Rattle.std.proofs.lemmas.List.{get_or-set_other, get_or-set_same, length-replicate}
use Rattle.std.proofs.Math.Bool.{and-true}
use Rattle.value_text.proofs.ListLemmas.{Some-unwrap_or, none_at, nothing_found}
use Rattle.cov_model.specs.declared.slice.Slice.{Slice}
use Rattle.cov_model.specs.declared.slice.Slice.TheVariants.{Positive, Negative}
use Rattle.cov_model.specs.believed.Sound.{ModelView, param_at}
use Rattle.cov_model.specs.Fits.{FitsModel}
use Rattle.cov_model.specs.believed.Meaning.{value_at}
use Rattle.cov_model.specs.believed.Rows.{is_assigned, value_in, with_value}
use Rattle.cov_model.specs.believed.Valid.{negatives}
use Rattle.cov_model.specs.believed.Slices.{slice_by, slice_of, slice_values}
use Rattle.definitions.specs.believed.Completion.{has_slice, preferred_values}
use Rattle.definitions.specs.believed.Demand.{is_among}
use Rattle.cov_model.specs.Preference.{OrdersValues}
use Rattle.cov_model.specs.believed.Tuples.{cells_of}
use Rattle.definitions.specs.believed.Refutation.{is_negative_leaf, is_omission_leaf}
use Rattle.definitions.specs.believed.Search.{breaks_a_rule}
use Rattle.definitions.specs.SliceRows.{IsOfSlice, IsSliceOf}
use Rattle.definitions.proofs.Members.{Has, all_members, any_member, of_among, of_any, same_answer}
use Rattle.definitions.proofs.SliceLemmas.{HasFixed, has_negatives, of_negatives, slice_is}
use Rattle.definitions.proofs.SliceValues.{slice_exists, slice_other, slice_positive}
use Rattle.live_sets.specs.Trail.{LiveView, mark_at}
use Rattle.feasibility.specs.Live.{HasUnmarked, ShowsFailure, ShowsLive}
use Rattle.feasibility.specs.Refuting.{IsPath, IsRefuter, RefuterView, TriesPositive, fixed_params, is_cited}
use Rattle.feasibility.specs.Solving.{IsSolver, SolverView}
use Rattle.feasibility.specs.Tree.{IsListed, no_values}
use Rattle.feasibility.proofs.Broken.{broken_stays, longer_alone, longer_none, longer_with}
use Rattle.feasibility.proofs.Extendable.{preferred_listed, slice_listed}
use Rattle.feasibility.proofs.NarrowedSets.{count_none}
use Rattle.feasibility.proofs.Nodes.{FitsModel-with_value}
use Rattle.feasibility.proofs.TuplePairs.{gives_pair, has_param}

-- ---- paths

-- the tuple
pub tuple_path : (r : RefuterView) → FitsModel r.model r.tuple → IsPath r r.tuple
tuple_path r fits = record {
  fits = fits;
  longer = λ q given. given;
  positive = false_from_ne_true (is_negative_leaf r.model r.tuple r.tuple) (λ leaf.
      let found = of_any (λ p. not (is_assigned r.tuple p)) (negatives r.model r.tuple) leaf in
      false≢true (sym (not-true (is_assigned r.tuple found.0) found.2) ∙ (of_negatives r.model r.tuple found.0 found.1).assigned));
}

-- a parameter without a value on the path has none in the tuple
pub free_in_tuple : (r : RefuterView) (path : List (Option ℕ)) (q : ℕ) → IsPath r path → is_assigned path q ≡ false → is_assigned r.tuple q ≡ false
free_in_tuple r path q is free = false_from_ne_true (is_assigned r.tuple q) (λ given. false≢true (sym free ∙ is.longer q given))

set_value : (r : RefuterView) (path : List (Option ℕ)) (q w : ℕ) → IsPath r path → q < length r.model.params
    → get_or (with_value path q w) q None ≡ Some w
set_value r path q w is within = get_or-set_same path q (Some w) None (omega (arith, within, is.fits.as_long))

-- with a negative value more the negative leaf is possible
pub negative_value : (r : RefuterView) (path : List (Option ℕ)) (q w : ℕ) → IsPath r path → q < length r.model.params → is_assigned path q ≡ false
    → (value_at r.model q w).negative ≡ true → is_negative_leaf r.model r.tuple (with_value path q w) ≡ true
negative_value r path q w is within free negative =
    any_member (λ p. not (is_assigned r.tuple p)) (negatives r.model (with_value path q w)) q
    (has_negatives r.model (with_value path q w) q (record {
      within = within;
      assigned = ap (λ (cell : Option ℕ). is_some cell) (set_value r path q w is within);
      negative = ap (λ (cell : Option ℕ). (value_at r.model q (unwrap_or cell 0)).negative) (set_value r path q w is within) ∙ negative;
    }))
    (ap not (free_in_tuple r path q is free))

-- and with another value more it is a path
pub positive_value : (r : RefuterView) (path : List (Option ℕ)) (q w : ℕ) → IsPath r path → q < length r.model.params
    → w < length (param_at r.model.params q).values → (value_at r.model q w).negative ≡ false → IsPath r (with_value path q w)
positive_value r path q w is within exists positive = record {
  fits = FitsModel-with_value r.model path q w is.fits within exists;
  longer = λ p given. elim (cases_eq p q) [
    | inl same ↦ ap (is_assigned (with_value path q w)) same ∙ ap (λ (cell : Option ℕ). is_some cell) (set_value r path q w is within)
    | inr differs ↦ ap (λ (cell : Option ℕ). is_some cell) (get_or-set_other path q p (Some w) None differs) ∙ is.longer p given
  ];
  positive = false_from_ne_true (is_negative_leaf r.model r.tuple (with_value path q w)) (λ leaf.
      let found = of_any (λ p. not (is_assigned r.tuple p)) (negatives r.model (with_value path q w)) leaf in
      let at = of_negatives r.model (with_value path q w) found.0 found.1 in
      elim (cases_eq found.0 q) [
        | inl same ↦
            false≢true (sym positive
            ∙ sym (ap (λ (p : ℕ). (value_at r.model p (value_in (with_value path q w) p)).negative) same
            ∙ ap (λ (cell : Option ℕ). (value_at r.model q (unwrap_or cell 0)).negative) (set_value r path q w is within)) ∙ at.negative)
        | inr differs ↦
            let there = get_or-set_other path q found.0 (Some w) None differs in
            false≢true (sym is.positive
            ∙ any_member (λ p. not (is_assigned r.tuple p)) (negatives r.model path) found.0
            (has_negatives r.model path found.0 (record {
              within = at.within;
              assigned = ap (λ (cell : Option ℕ). is_some cell) (sym there) ∙ at.assigned;
              negative = ap (λ (cell : Option ℕ). (value_at r.model found.0 (unwrap_or cell 0)).negative) (sym there) ∙ at.negative;
            })) found.2)
      ]);
}

-- ---- earlier tuples

-- the leaf of an earlier tuple's number is possible exactly where it is cited, in a proof of format 2
pub cited_leaf : (r : RefuterView) (path : List (Option ℕ)) (i : ℕ) → r.format ≡ 2 → i < length r.earlier
    → is_omission_leaf r.model r.format r.earlier r.tuple path (i + 1) ≡ is_cited r path (get_or r.earlier i [])
cited_leaf r path i two within =
    ap (λ (f : ℕ). is_omission_leaf r.model f r.earlier r.tuple path (i + 1)) two
    ∙ ap (λ (n : ℕ). is_omission_leaf r.model 2 r.earlier r.tuple path n) (add-one i)
    ∙ ap (λ (o : Option (List (Option ℕ))). option_map_or (is_cited r path) o false) (slice_get-get_or r.earlier i [] within)

-- and none is in one of format 1
pub none_cited : (r : RefuterView) (path : List (Option ℕ)) → r.format ≡ 1
    → find (is_omission_leaf r.model r.format r.earlier r.tuple path) (range_with_len 1 (length r.earlier)) ≡ None
none_cited r path one =
    nothing_found (is_omission_leaf r.model r.format r.earlier r.tuple path) (range_with_len 1 (length r.earlier))
    (all_members (λ n. is_omission_leaf r.model r.format r.earlier r.tuple path n ≡ false) (range_with_len 1 (length r.earlier))
    (λ n has. ap (λ (f : ℕ). is_omission_leaf r.model f r.earlier r.tuple path n) one))

-- a tuple gives the tuple's negative values exactly if it gives the slice's fixed parameter a value
pub gives_fixed : (r : RefuterView) (slice : Slice) (p v : ℕ) (pairs : List (ℕ × ℕ)) → IsRefuter r slice → slice ≡ Negative p v
    → has_param pairs p ≡ list_all (is_assigned (cells_of (length r.model.params) pairs)) (negatives r.model r.tuple)
gives_fixed r slice p v pairs is fixed =
    let one : negatives r.model r.tuple ≡ p ∷ [] = is.fixed ∙ ap fixed_params fixed in
    let within = (of_negatives r.model r.tuple p (subst (λ (ps : List ℕ). Has ps p) (sym one) (inl refl))).within in
    sym (gives_pair (length r.model.params) pairs p within)
    ∙ sym (and-true (is_assigned (cells_of (length r.model.params) pairs) p))
    ∙ ap (list_all (is_assigned (cells_of (length r.model.params) pairs))) (sym one)

pub gives_none : (r : RefuterView) (slice : Slice) (pairs : List (ℕ × ℕ)) → IsRefuter r slice → slice ≡ Positive
    → true ≡ list_all (is_assigned (cells_of (length r.model.params) pairs)) (negatives r.model r.tuple)
gives_none r slice pairs is positive =
    ap (list_all (is_assigned (cells_of (length r.model.params) pairs))) (sym (is.fixed ∙ ap fixed_params positive))

-- ---- values

-- what a mark tells of a value, and that there is none
pub record IsLiveValue (r : RefuterView) (path : List (Option ℕ)) (q w : ℕ) : Type 0 where
  pub listed : is_among (get_or r.lists q []) w ≡ true
  pub positive : (value_at r.model q w).negative ≡ false
  pub unbroken : breaks_a_rule r.model (with_value path q w) ≡ false

pub marked_value : (r : RefuterView) (path : List (Option ℕ)) (sets : LiveView) (q w : ℕ) → TriesPositive r → IsPath r path
    → ShowsLive r.model r.lists path sets → q < length r.model.params → w < length (param_at r.model.params q).values → is_assigned path q ≡ false
    → mark_at sets.live q w ≡ true → IsLiveValue r path q w
marked_value r path sets q w tries on shows within exists free marked =
    let parts = and_parts (is_among (get_or r.lists q []) w) (not (breaks_a_rule r.model (with_value path q w)))
    (sym (shows.marks q w within exists free) ∙ marked) in
    record {
      listed = parts.0;
      positive = not-true (value_at r.model q w).negative (sym (tries q w within exists (free_in_tuple r path q on free)) ∙ parts.0);
      unbroken = not-true (breaks_a_rule r.model (with_value path q w)) parts.1;
    }

pub unmarked_value : (r : RefuterView) (path : List (Option ℕ)) (sets : LiveView) (q w : ℕ) → TriesPositive r → IsPath r path
    → ShowsLive r.model r.lists path sets → q < length r.model.params → w < length (param_at r.model.params q).values → is_assigned path q ≡ false
    → mark_at sets.live q w ≡ false → (value_at r.model q w).negative ≡ false → breaks_a_rule r.model (with_value path q w) ≡ true
unmarked_value r path sets q w tries on shows within exists free unmarked positive =
    not-false (breaks_a_rule r.model (with_value path q w))
    (ap (λ (b : Bool). b && not (breaks_a_rule r.model (with_value path q w)))
    (sym (tries q w within exists (free_in_tuple r path q on free) ∙ ap not positive))
    ∙ sym (shows.marks q w within exists free) ∙ unmarked)

-- a parameter without a mark is no later than the first such one
pub unmarked_from : (m : ModelView) (cells : List (Option ℕ)) (live : List (List Bool)) (q : ℕ) (some : HasUnmarked m cells live)
    → ((p : ℕ) → p < q → (is_assigned cells p ≡ true) ⊎ (0 < count_by (λ mark. mark) (get_or live p []))) → q ≤ some.param
unmarked_from m cells live q some before =
    elim (cases_lt some.param q) [
      | inl less ↦ elim (before some.param less) [
        | inl given ↦ absurd (false≢true (sym some.free ∙ given))
        | inr marked ↦ absurd (omega (arith, marked, some.unmarked))
      ]
      | inr from ↦ from
    ]

-- an unbroken path fails by a parameter without a mark
pub unmarked_of : (m : ModelView) (cells : List (Option ℕ)) (live : List (List Bool)) → breaks_a_rule m cells ≡ false
    → (breaks_a_rule m cells ≡ true) ⊎ HasUnmarked m cells live → HasUnmarked m cells live
unmarked_of m cells live unbroken (inl broken) = absurd (false≢true (sym unbroken ∙ broken))
unmarked_of m cells live unbroken (inr some) = some

-- a value that isn't negative, of a parameter without a mark, makes a constraint No
pub unmarked_dead : (r : RefuterView) (path : List (Option ℕ)) (sets : LiveView) (q w : ℕ) → TriesPositive r → IsPath r path
    → ShowsFailure r.model r.lists path sets → q < length r.model.params → w < length (param_at r.model.params q).values → is_assigned path q ≡ false
    → count_by (λ mark. mark) (get_or sets.live q []) ≡ 0 → (value_at r.model q w).negative ≡ false → breaks_a_rule r.model (with_value path q w) ≡ true
unmarked_dead r path sets q w tries on shows within exists free none positive =
    shows.dead q w within exists free (tries q w within exists (free_in_tuple r path q on free) ∙ ap not positive)
    (count_none (get_or sets.live q []) w none)

-- ---- where the node without values fails

pub failure_stays : (m : ModelView) (lists : List (List ℕ)) (cells : List (Option ℕ)) (sets : LiveView) → length cells ≡ length m.params
    → IsListed lists cells → FitsModel m cells → ShowsFailure m lists (no_values m) sets → ShowsFailure m lists cells sets
failure_stays m lists cells sets long is fits shows = record {
  shape = shows.shape;
  dead = λ q w low inside free listed gone.
      broken_stays m (with_value (no_values m) q w) (with_value cells q w)
      (longer_with (no_values m) cells q w (length-replicate (length m.params) None ∙ sym long) (longer_none (length m.params) cells))
      (shows.dead q w low inside (none_given q) listed gone);
  why = by_reason shows.why;
}
  where
    none_given : (q : ℕ) → is_assigned (no_values m) q ≡ false
    none_given q = ap (λ (cell : Option ℕ). is_some cell) (none_at (length m.params) q)

    by_reason : (breaks_a_rule m (no_values m) ≡ true) ⊎ HasUnmarked m (no_values m) sets.live → (breaks_a_rule m cells ≡ true) ⊎ HasUnmarked m cells sets.live
    by_reason (inl broken) = inl (broken_stays m (no_values m) cells (longer_none (length m.params) cells) broken)
    by_reason (inr none) = elim (cases_Bool (is_assigned cells none.param)) [
      | inl given ↦
          inl (broken_stays m (with_value (no_values m) none.param (value_in cells none.param)) cells
          (longer_alone (length m.params) cells none.param (value_in cells none.param) long (Some-unwrap_or (get_or cells none.param None) 0 given))
          (shows.dead none.param (value_in cells none.param) none.exists (fits.exist none.param given) (none_given none.param) (is.listed none.param given)
          (count_none (get_or sets.live none.param []) (value_in cells none.param) none.unmarked)))
      | inr free ↦ inr (record { param = none.param; exists = none.exists; free = free; unmarked = none.unmarked })
    ]

-- ---- the tuple of a slice

negatives_by : (m : ModelView) (slice : Slice) (cells : List (Option ℕ)) (ps : List ℕ) → length ps ≤ 1 → slice_by cells ps ≡ slice → ps ≡ fixed_params slice
negatives_by m slice cells ps few is = by_list ps few ∙ ap fixed_params is
  where
    by_list : (ps : List ℕ) → length ps ≤ 1 → ps ≡ fixed_params (slice_by cells ps)
    by_list [] few = refl
    by_list (p ∷ []) few = refl
    by_list (p ∷ q ∷ ps) few = absurd (omega arith)

-- the tuple of a slice gives its fixed parameter a value
slice_fixes : (m : ModelView) (slice : Slice) (cells : List (Option ℕ)) → slice_of m cells ≡ slice → HasFixed slice cells
slice_fixes m slice cells same = subst (λ (s : Slice). HasFixed s cells) same (by_list (negatives m cells) (λ p has. (of_negatives m cells p has).assigned))
  where
    by_list : (ps : List ℕ) → ((p : ℕ) → Has ps p → is_assigned cells p ≡ true) → HasFixed (slice_by cells ps) cells
    by_list [] each = tt
    by_list (p ∷ ps) each = each p (inl refl)

-- so it has one negative value at most
pub slice_few : (m : ModelView) (slice : Slice) (cells : List (Option ℕ)) → IsSliceOf m slice → IsOfSlice m slice cells → slice_of m cells ≡ slice
    → has_slice m cells ≡ true
slice_few m slice cells is of same =
    (slice_is m slice cells (slice_exists m slice is) (record {
      values = λ p within given. of_among (get_or (slice_values m slice) p []) (value_in cells p) (of.listed p given);
      fixed = slice_fixes m slice cells same;
    })).few

-- that of the slice
slice_negatives : (m : ModelView) (slice : Slice) (cells : List (Option ℕ)) → IsSliceOf m slice → IsOfSlice m slice cells → slice_of m cells ≡ slice
    → negatives m cells ≡ fixed_params slice
slice_negatives m slice cells is of same =
    negatives_by m slice cells (negatives m cells) (leb-true (length (negatives m cells)) 1 (slice_few m slice cells is of same)) same

-- and the values to try of a parameter without a value are those that aren't negative
slice_tries : (m : ModelView) (pref : List (List ℕ)) (slice : Slice) (cells : List (Option ℕ)) (q w : ℕ) → OrdersValues m pref → IsSliceOf m slice
    → slice_of m cells ≡ slice → q < length m.params → w < length (param_at m.params q).values → is_assigned cells q ≡ false
    → is_among (get_or (preferred_values m pref slice) q []) w ≡ not (value_at m q w).negative
slice_tries m pref slice cells q w orders is same within exists free =
    same_answer (is_among (get_or (preferred_values m pref slice) q []) w) (is_among (get_or (slice_values m slice) q []) w)
    (preferred_listed m pref slice q w) (slice_listed m pref slice q w orders is)
    ∙ by_slice slice (slice_fixes m slice cells same)
  where
    by_slice : (s : Slice) → HasFixed s cells → is_among (get_or (slice_values m s) q []) w ≡ not (value_at m q w).negative
    by_slice Positive fixed = sym (slice_positive m q w within exists)
    by_slice (Negative p v) fixed =
        sym (slice_other m p v q w (λ equal. false≢true (sym free ∙ ap (is_assigned cells) (sym equal) ∙ fixed)) within exists)

-- so the tree of a tuple of a solver's slice can be made
pub solver_refutes : (solver : SolverView) (lists : List (List ℕ)) (room : List (Option ℕ)) (fails : Bool) (sets : LiveView) (format : ℕ)
    (earlier : List (List (Option ℕ))) (tuple : List (Option ℕ)) → IsSolver solver lists room fails sets
    → IsOfSlice solver.model solver.slice tuple → slice_of solver.model tuple ≡ solver.slice → length earlier < 2 ^ 32
    → IsRefuter (record { model = solver.model; lists = lists; format = format; earlier = earlier; tuple = tuple }) solver.slice
solver_refutes solver lists room fails sets format earlier tuple is of same few = record {
  fixed = slice_negatives solver.model solver.slice tuple is.slice of same;
  positive = λ q w within exists free.
      ap (λ (values : List (List ℕ)). is_among (get_or values q []) w) is.tried
      ∙ slice_tries solver.model solver.prefs solver.slice tuple q w is.orders is.slice same within exists free;
  few = few;
}
