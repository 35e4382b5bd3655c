-- Plain search in a slice of a model.
use Rattle.std.proofs.Common.{◌≡◌, ℕ, zero, suc, ◌+◌, ◌<◌, ◌≤◌, Bool, true, false, not, ◌||◌, ◌==◌, cond, List, [], ◌∷◌, map, length, Option}
use Rattle.std.proofs.Common.{Some, None, is_some, get_or, ◌∙◌, sym, ap, subst, refl, arith, inl, inr, eq-eqb, zero-add}
use Rattle.std.specs.List.{filter, range_with_len}
use Rattle.std.proofs.lemmas.Bool.{false≢true, cases_lt, cases_eq, eqb-true, false_from_ne_true}
use Rattle.std.proofs.lemmas.List.{get_or-set_other, get_or-set_same, get_or_past}
use Rattle.std.proofs.lemmas.List.Folds.{list_any_at}
use Rattle.std.proofs.lemmas.List.Sorted.{list_any-IsPermutation}
use Rattle.std.proofs.lemmas.List.FromFn.{length-range_with_len, get_or-range_with_len, length-map-range_with_len, get_or-map-range_with_len}
use Rattle.cov_model.specs.declared.slice.Slice.{Slice}
use Rattle.cov_model.specs.declared.slice.Slice.TheVariants.{Positive, Negative}
use Rattle.cov_model.specs.believed.Sound.{ModelView, IsSound, param_at}
use Rattle.cov_model.specs.believed.Rows.{value_in}
use Rattle.cov_model.specs.believed.Meaning.{value_at}
use Rattle.cov_model.specs.believed.Valid.{param_numbers}
use Rattle.cov_model.specs.believed.Slices.{slice_values, positive_values, value_numbers}
use Rattle.definitions.specs.believed.Demand.{is_among}
use Rattle.definitions.specs.believed.Completion.{completions, meets_rules, is_extendable, preferred_values, first_completion}
use Rattle.definitions.specs.believed.Search.{constrained_params, plain_search, plain_cost, visit}
pub use Rattle.cov_model.proofs.CellLemmas.{length-slice_values}
use Rattle.cov_model.specs.Preference.{OrdersValues}
use Rattle.definitions.proofs.Members.{same_answer}
pub use Rattle.definitions.proofs.PartialRowLemmas.{get_or-preferred_values}
use Rattle.definitions.proofs.PartialRowLemmas.{among_tail, length-preferred_values}
use Rattle.feasibility.specs.Answers.{answer_of}
use Rattle.feasibility.specs.declared.answer.Answer.{Answer}
use Rattle.feasibility.specs.declared.answer.Answer.TheVariants.{Yes}
use Rattle.live_sets.specs.Trail.{LiveView}
use Rattle.feasibility.specs.Solving.{SolverView, IsSolver}
use Rattle.feasibility.specs.Tree.{ListsValues, IsListed}
use Rattle.feasibility.proofs.Visits.{told_yes}
use Rattle.feasibility.specs.Path.{filled, reached}
use Rattle.definitions.specs.SliceRows.{IsSliceOf, IsOfSlice}
use Rattle.feasibility.specs.Laws.{PlainSearchIsExact}
use Rattle.value_text.proofs.ListLemmas.{list_any-find}
use Rattle.feasibility.proofs.Completing.{first_of, first_of-none, first_of-some, completion_moves, among_filter}
use Rattle.feasibility.proofs.Searching.{given_by, visit_gives}

is_none : {X : Type 0} (o : Option X) → o ≡ None → is_some o ≡ false
is_none o is = ap (λ o. is_some o) is

-- what one list of values finds, another with the same values does
found_moves : (lists others : List (List ℕ)) (cells : List (Option ℕ)) (test : List (Option ℕ) → Bool) → length cells ≡ length lists
    → length lists ≡ length others
    → ((p v : ℕ) → is_among (get_or lists p []) v ≡ true → is_among (get_or others p []) v ≡ true)
    → is_some (first_of lists cells test) ≡ true → is_some (first_of others cells test) ≡ true
found_moves lists others cells test long same moves found = by_case (is_some (first_of others cells test)) refl
  where
    by_case : (b : Bool) → is_some (first_of others cells test) ≡ b → b ≡ true
    by_case true is = refl
    by_case false is =
        absurd (false≢true (sym (is_none (first_of lists cells test) (first_of-none lists cells test long (λ row completes.
        false_from_ne_true (test row) (λ meets. false≢true (sym is
        ∙ first_of-some others cells row test (completion_moves lists others cells row same moves completes) meets)))))
        ∙ found))

among_range : (n v : ℕ) → v < n → is_among (range_with_len 0 n) v ≡ true
among_range n v within =
    list_any_at (λ k. k == v) (range_with_len 0 n) v 0 (omega (arith, length-range_with_len 0 n))
    (eq-eqb _ v (get_or-range_with_len 0 n v 0 within ∙ zero-add v))

pub among_range_below : (a n v : ℕ) → is_among (range_with_len a n) v ≡ true → v < a + n
among_range_below a zero v listed = absurd (false≢true listed)
among_range_below a (suc n) v listed = by_case (a == v) (eqb-true a v) listed (among_range_below (a + 1) n v)
  where
    by_case : (equal : Bool) → (equal ≡ true → a ≡ v) → (equal || is_among (range_with_len (a + 1) n) v) ≡ true
        → (is_among (range_with_len (a + 1) n) v ≡ true → v < a + 1 + n) → v < a + suc n
    by_case true same h later = omega (arith, same refl)
    by_case false same h later = omega (arith, later h)

pub among_filter_test : (test : ℕ → Bool) (v : ℕ) (values : List ℕ) → is_among (filter test values) v ≡ true → test v ≡ true
among_filter_test test v [] listed = absurd (false≢true listed)
among_filter_test test v (w ∷ values) listed = by_case (test w) refl listed (among_filter_test test v values)
  where
    here : (equal : Bool) → (w == v) ≡ equal → test w ≡ true → (equal || is_among (filter test values) v) ≡ true
        → (is_among (filter test values) v ≡ true → test v ≡ true) → test v ≡ true
    here true is passes h later = subst (λ (u : ℕ). test u ≡ true) (eqb-true w v is) passes
    here false is passes h later = later h

    by_case : (b : Bool) → test w ≡ b → is_among (cond b (w ∷ filter test values) (filter test values)) v ≡ true
        → (is_among (filter test values) v ≡ true → test v ≡ true) → test v ≡ true
    by_case true is h later = here (w == v) refl is h later
    by_case false is h later = later h

among_filter_in : (test : ℕ → Bool) (v : ℕ) (values : List ℕ) → test v ≡ true → is_among values v ≡ true → is_among (filter test values) v ≡ true
among_filter_in test v [] passes listed = listed
among_filter_in test v (w ∷ values) passes listed = by_equal (w == v) refl listed (among_filter_in test v values passes)
  where
    by_test : (b : Bool) → is_among (filter test values) v ≡ true → is_among (cond b (w ∷ filter test values) (filter test values)) v ≡ true
    by_test true h = among_tail w v (filter test values) h
    by_test false h = h

    by_equal : (equal : Bool) → (w == v) ≡ equal → (equal || is_among values v) ≡ true → (is_among values v ≡ true → is_among (filter test values) v ≡ true)
        → is_among (cond (test w) (w ∷ filter test values) (filter test values)) v ≡ true
    by_equal true is h later =
        let same = eqb-true w v is in
        ap (λ (b : Bool). is_among (cond b (w ∷ filter test values) (filter test values)) v) (ap test same ∙ passes)
        ∙ ap (λ (b : Bool). b || is_among (filter test values) v) is
    by_equal false is h later = by_test (test w) (later h)

positive_exist : (m : ModelView) (p v : ℕ) → p < length m.params → is_among (get_or (map (positive_values m) (param_numbers m)) p []) v ≡ true
    → v < length (param_at m.params p).values
positive_exist m p v within listed =
    let here : get_or (map (positive_values m) (param_numbers m)) p [] ≡ positive_values m p =
    get_or-map-range_with_len (positive_values m) 0 (length m.params) p p [] within (zero-add p) in
    let low = among_range_below 0 (length (param_at m.params p).values) v
    (among_filter (λ w. not (value_at m p w).negative) v (value_numbers m p) (subst (λ (values : List ℕ). is_among values v ≡ true) here listed)) in
    omega (arith, low)

-- the values of a slice exist
pub slice_exist : (m : ModelView) (slice : Slice) (p v : ℕ) → IsSliceOf m slice → p < length m.params → is_among (get_or (slice_values m slice) p []) v ≡ true
    → v < length (param_at m.params p).values
slice_exist m Positive p v is within listed = positive_exist m p v within listed
slice_exist m (Negative q w) p v is within listed =
    elim (cases_eq p q) [
      | inl same ↦
          let here : get_or (slice_values m (Negative q w)) p [] ≡ w ∷ [] =
          ap (λ (k : ℕ). get_or (slice_values m (Negative q w)) k []) same
          ∙ get_or-set_same (map (positive_values m) (param_numbers m)) q (w ∷ []) []
          (omega (arith, length-map-range_with_len (positive_values m) 0 (length m.params), is.0)) in
          let equal : w ≡ v = one w v (subst (λ (values : List ℕ). is_among values v ≡ true) here listed) in
          subst (λ (u : ℕ). u < length (param_at m.params p).values) equal (subst (λ (k : ℕ). w < length (param_at m.params k).values) (sym same) is.1)
      | inr differs ↦
          positive_exist m p v within
          (subst (λ (values : List ℕ). is_among values v ≡ true) (get_or-set_other (map (positive_values m) (param_numbers m)) q p (w ∷ []) [] differs)
          listed)
    ]
  where
    one : (w v : ℕ) → ((w == v) || false) ≡ true → w ≡ v
    one w v h = by_case (w == v) (eqb-true w v) h
      where
        by_case : (b : Bool) → (b ≡ true → w ≡ v) → (b || false) ≡ true → w ≡ v
        by_case true same h = same refl
        by_case false same h = absurd (false≢true h)

-- a value that is listed in preference order is one of the slice
pub preferred_listed : (m : ModelView) (pref : List (List ℕ)) (slice : Slice) (p v : ℕ) → is_among (get_or (preferred_values m pref slice) p []) v ≡ true
    → is_among (get_or (slice_values m slice) p []) v ≡ true
preferred_listed m pref slice p v listed =
    elim (cases_lt p (length m.params)) [
      | inl within ↦
          among_filter_test (is_among (get_or (slice_values m slice) p [])) v (get_or pref p [])
          (subst (λ (values : List ℕ). is_among values v ≡ true) (get_or-preferred_values m pref slice p within) listed)
      | inr past ↦
          absurd (false≢true (ap (λ (values : List ℕ). is_among values v)
          (sym (get_or_past (preferred_values m pref slice) p [] (omega (arith, length-preferred_values m pref slice)))) ∙ listed))
    ]

-- and each value of the slice is listed
pub slice_listed : (m : ModelView) (pref : List (List ℕ)) (slice : Slice) (p v : ℕ) → OrdersValues m pref → IsSliceOf m slice
    → is_among (get_or (slice_values m slice) p []) v ≡ true → is_among (get_or (preferred_values m pref slice) p []) v ≡ true
slice_listed m pref slice p v are is listed =
    elim (cases_lt p (length m.params)) [
      | inl within ↦
          subst (λ (values : List ℕ). is_among values v ≡ true) (sym (get_or-preferred_values m pref slice p within))
          (among_filter_in (is_among (get_or (slice_values m slice) p [])) v (get_or pref p []) listed
          (sym (list_any-IsPermutation (λ k. k == v) (value_numbers m p) (get_or pref p []) (are.each p within))
          ∙ among_range (length (param_at m.params p).values) v (slice_exist m slice p v is within listed)))
      | inr past ↦
          absurd (false≢true (ap (λ (values : List ℕ). is_among values v)
          (sym (get_or_past (slice_values m slice) p [] (omega (arith, length-slice_values m slice)))) ∙ listed))
    ]

past_exist : (m : ModelView) (pref : List (List ℕ)) (slice : Slice) (p v : ℕ) → length m.params ≤ p → is_among (get_or (slice_values m slice) p []) v ≡ true
    → ⊥
past_exist m pref slice p v past listed =
    false≢true (ap (λ (values : List ℕ). is_among values v) (sym (get_or_past (slice_values m slice) p [] (omega (arith, length-slice_values m slice))))
    ∙ listed)

pub preferred_are_values : (m : ModelView) (pref : List (List ℕ)) (slice : Slice) → IsSliceOf m slice → ListsValues m (preferred_values m pref slice)
preferred_are_values m pref slice is = record {
  as_many = length-preferred_values m pref slice;
  exist = λ p v listed.
      elim (cases_lt p (length m.params)) [
        | inl within ↦ slice_exist m slice p v is within (preferred_listed m pref slice p v listed)
        | inr past ↦ absurd (past_exist m pref slice p v past (preferred_listed m pref slice p v listed))
      ];
}

pub is_listed : (m : ModelView) (pref : List (List ℕ)) (slice : Slice) (cells : List (Option ℕ)) → OrdersValues m pref → IsSliceOf m slice
    → IsOfSlice m slice cells
    → IsListed (preferred_values m pref slice) cells
is_listed m pref slice cells are is of = record {
  long = of.fits.as_long ∙ sym (length-preferred_values m pref slice);
  listed = λ p assigned. slice_listed m pref slice p (value_in cells p) are is (of.listed p assigned);
}

-- plain search gives the first completion
pub plain_search_gives : (m : ModelView) (pref : List (List ℕ)) (slice : Slice) (cells : List (Option ℕ)) → IsSound m → OrdersValues m pref
    → IsSliceOf m slice → IsOfSlice m slice cells
    → first_completion m pref slice cells ≡ given_by (plain_search m pref slice cells)
    (filled (preferred_values m pref slice) (reached m (preferred_values m pref slice) (constrained_params m) cells))
plain_search_gives m pref slice cells sound are is of =
    visit_gives m (preferred_values m pref slice) 0 (length m.params) cells sound (preferred_are_values m pref slice is)
    (is_listed m pref slice cells are is of)
    (zero-add (length m.params)) (λ q before named. absurd (omega arith))

found_given : (found : Bool) (row : List (Option ℕ)) → is_some (cond found (Some row) None) ≡ found
found_given true row = refl
found_given false row = refl

pub completed_is_extendable : (m : ModelView) (pref : List (List ℕ)) (slice : Slice) (cells : List (Option ℕ)) → OrdersValues m pref
    → IsSliceOf m slice → IsOfSlice m slice cells → is_some (first_completion m pref slice cells) ≡ is_extendable m slice cells
completed_is_extendable m pref slice cells are is of =
    let some = length-preferred_values m pref slice in
    let all = length-slice_values m slice in
    same_answer (is_some (first_of (preferred_values m pref slice) cells (meets_rules m))) (is_some (first_of (slice_values m slice) cells (meets_rules m)))
    (found_moves (preferred_values m pref slice) (slice_values m slice) cells (meets_rules m) (of.fits.as_long ∙ sym some) (some ∙ sym all)
    (preferred_listed m pref slice))
    (found_moves (slice_values m slice) (preferred_values m pref slice) cells (meets_rules m) (of.fits.as_long ∙ sym all) (all ∙ sym some)
    (λ p v. slice_listed m pref slice p v are is))
    ∙ sym (list_any-find (meets_rules m) (completions (slice_values m slice) cells))

pub plain_search_is_exact : PlainSearchIsExact
plain_search_is_exact m pref slice cells sound are is of =
    let whole = completed_is_extendable m pref slice cells are is of in (
      sym (found_given (plain_search m pref slice cells).found (filled (preferred_values m pref slice)
          (reached m (preferred_values m pref slice) (constrained_params m) cells)))
          ∙ sym (ap (λ (o : Option (List (Option ℕ))). is_some o) (plain_search_gives m pref slice cells sound are is of)) ∙ whole,
      whole,
    )

-- what a search over a solver's values answers is what is asked of the solver
pub solver_asks : (solver : SolverView) (lists : List (List ℕ)) (room : List (Option ℕ)) (fails : Bool) (sets : LiveView) (cells : List (Option ℕ))
    (budget : ℕ) (answer : Answer) → IsSolver solver lists room fails sets
    → IsSound solver.model → IsOfSlice solver.model solver.slice cells
    → answer ≡ answer_of (visit solver.model lists (constrained_params solver.model) cells).found
    (visit solver.model lists (constrained_params solver.model) cells).cost budget
    → answer ≡ answer_of (is_extendable solver.model solver.slice cells) (plain_cost solver.model solver.prefs solver.slice cells) budget
solver_asks solver lists room fails sets cells budget answer is sound of told =
    told
    ∙ ap (λ (values : List (List ℕ)). answer_of (visit solver.model values (constrained_params solver.model) cells).found
    (visit solver.model values (constrained_params solver.model) cells).cost budget) is.tried
    ∙ ap (λ (found : Bool). answer_of found (plain_cost solver.model solver.prefs solver.slice cells) budget)
    (plain_search_is_exact solver.model solver.prefs solver.slice cells sound is.orders is.slice of).0

-- and the row that it reaches is the first completion
pub solver_completes : (solver : SolverView) (lists : List (List ℕ)) (room : List (Option ℕ)) (fails : Bool) (sets : LiveView) (cells row : List (Option ℕ))
    (budget : ℕ) (answer : Answer) → IsSolver solver lists room fails sets
    → IsSound solver.model → IsOfSlice solver.model solver.slice cells
    → answer ≡ answer_of (visit solver.model lists (constrained_params solver.model) cells).found
    (visit solver.model lists (constrained_params solver.model) cells).cost budget
    → answer ≡ Yes → row ≡ filled lists (reached solver.model lists (constrained_params solver.model) cells)
    → Some row ≡ first_completion solver.model solver.prefs solver.slice cells
solver_completes solver lists room fails sets cells row budget answer is sound of told answers reaches =
    let whole : Yes ≡ answer_of (plain_search solver.model solver.prefs solver.slice cells).found (plain_cost solver.model solver.prefs solver.slice cells)
    budget =
    sym answers ∙ told
    ∙ ap (λ (values : List (List ℕ)). answer_of (visit solver.model values (constrained_params solver.model) cells).found
    (visit solver.model values (constrained_params solver.model) cells).cost budget) is.tried in
    let found = (told_yes (plain_search solver.model solver.prefs solver.slice cells).found (plain_cost solver.model solver.prefs solver.slice cells) budget
    whole).is in
    let last : row ≡ filled (preferred_values solver.model solver.prefs solver.slice)
    (reached solver.model (preferred_values solver.model solver.prefs solver.slice) (constrained_params solver.model) cells) =
    reaches ∙ ap (λ (values : List (List ℕ)). filled values (reached solver.model values (constrained_params solver.model) cells)) is.tried in
    sym (plain_search_gives solver.model solver.prefs solver.slice cells sound is.orders is.slice of
    ∙ ap (λ (b : Bool). cond b (Some (filled (preferred_values solver.model solver.prefs solver.slice)
    (reached solver.model (preferred_values solver.model solver.prefs solver.slice) (constrained_params solver.model) cells))) None) found
    ∙ ap (λ (r : List (Option ℕ)). Some r) (sym last))

-- the values of a partial row of its slice are listed
pub solver_lists : (solver : SolverView) (lists : List (List ℕ)) (room : List (Option ℕ)) (fails : Bool) (sets : LiveView) (cells : List (Option ℕ))
    → IsSolver solver lists room fails sets
    → IsOfSlice solver.model solver.slice cells → IsListed lists cells
solver_lists solver lists room fails sets cells is of =
    subst (λ (values : List (List ℕ)). IsListed values cells) (sym is.tried)
    (is_listed solver.model solver.prefs solver.slice cells is.orders is.slice of)
