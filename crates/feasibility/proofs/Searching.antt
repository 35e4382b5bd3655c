-- Plain search finds the first completion that meets every constraint.
use Rattle.std.proofs.Common.{◌≡◌, ◌≢◌, lt-ltb, eq-eqb, zero-add, ℕ, zero, suc, ◌+◌, ◌<◌, Bool, true, false, not, ◌&&◌, ◌||◌, ◌==◌, cond, if◌then◌else◌, List, [], ◌∷◌}
use Rattle.std.proofs.Common.{length, Option, Some, None, is_some, unwrap_or, get_or, set, ◌⊎◌, ◌∙◌, sym, ap, subst, refl, arith, inl, inr}
use Rattle.std.specs.Option.{option_or}
use Rattle.std.specs.List.{filter, list_any, list_all, range_with_len}
use Rattle.std.proofs.lemmas.Bool.{false≢true, cases_lt, cases_eq, and_right, and_parts, and_from, or_parts, not-true, false_from_ne_true, eqb-true}
use Rattle.std.proofs.lemmas.List.{get_or-set_other, get_or-set_same, get_or_past, length-set}
use Rattle.std.proofs.lemmas.List.Folds.{list_any_at}
use Rattle.std.proofs.lemmas.List.Sums.{list_all-from_AllPass}
use Rattle.std.proofs.lemmas.List.FromFn.{length-range_with_len, get_or-range_with_len}
use Rattle.value_text.proofs.ListLemmas.{Some-unwrap_or}
use Rattle.cov_model.specs.declared.truth.Truth.{Truth}
use Rattle.cov_model.specs.declared.truth.Truth.TheVariants.{Yes, No, Unknown}
use Rattle.cov_model.specs.believed.Views.{RuleView}
use Rattle.cov_model.specs.believed.Sound.{ModelView, IsSound, IsSoundBody, param_at}
use Rattle.cov_model.specs.believed.Rows.{contains, is_assigned, value_in, with_value}
use Rattle.cov_model.specs.believed.Meaning.{body_holds}
use Rattle.cov_model.specs.believed.Kleene.{known, body_truth}
use Rattle.cov_model.specs.believed.Valid.{param_numbers, is_row, has_value}
use Rattle.cov_model.proofs.KnownLemmas.{no_stays, rows_are_known}
use Rattle.cov_model.proofs.CellLemmas.{contains-get_or}
use Rattle.definitions.specs.believed.Demand.{is_among}
use Rattle.definitions.specs.believed.Completion.{meets_rules}
use Rattle.definitions.specs.believed.Search.{Outcome, body_params, breaks_a_rule, is_no, is_stuck, is_failing, try_values, visit}
pub use Rattle.definitions.proofs.Refuted.{contains-with as contains-with_value}
use Rattle.feasibility.specs.Tree.{ListsValues, IsListed, is_named}
use Rattle.feasibility.specs.Path.{filled, reached, reached_by}
use Rattle.feasibility.proofs.Completing.{tried, tried_same, first_of, IsFree, Decided, first_of-branch, IsCompletion, first_of-none, CanBeFilled}
use Rattle.feasibility.proofs.Completing.{filled_is_completion, first_of-filled, completion_contains, completion_length, completion_gives}
use Rattle.feasibility.proofs.Local.{AgreeOn, agree_each, local_body}

-- a row on which every constraint holds contains no partial row on which some constraint is No
pub broken_fails : (m : ModelView) (rules : List RuleView) (cells row : List (Option ℕ)) → contains row cells ≡ true
    → list_any (λ rule. is_no (body_truth m rule.body cells)) rules ≡ true → list_all (λ rule. body_holds m rule.body row) rules ≡ false
broken_fails m [] cells row contained broken = absurd (false≢true broken)
broken_fails m (rule ∷ rules) cells row contained broken =
    by_case (body_truth m rule.body cells) refl broken (broken_fails m rules cells row contained)
  where
    by_case : (truth : Truth) → body_truth m rule.body cells ≡ truth → (is_no truth || list_any (λ rule. is_no (body_truth m rule.body cells)) rules) ≡ true
        → (list_any (λ rule. is_no (body_truth m rule.body cells)) rules ≡ true → list_all (λ rule. body_holds m rule.body row) rules ≡ false)
        → (body_holds m rule.body row && list_all (λ rule. body_holds m rule.body row) rules) ≡ false
    by_case No is h later = ap (λ (b : Bool). b && list_all (λ rule. body_holds m rule.body row) rules) (no_stays m rule.body cells row contained is)
    by_case Yes is h later = and_right (body_holds m rule.body row) (list_all (λ rule. body_holds m rule.body row) rules) (later h)
    by_case Unknown is h later = and_right (body_holds m rule.body row) (list_all (λ rule. body_holds m rule.body row) rules) (later h)

-- if no value passes the test's contrary, each passes the test
none_differs : (test : ℕ → Bool) (values : List ℕ) (v : ℕ) → list_any (λ w. not (test w)) values ≡ false → is_among values v ≡ true → test v ≡ true
none_differs test [] v none listed = absurd (false≢true listed)
none_differs test (w ∷ values) v none listed = by_test (test w) refl none (none_differs test values v)
  where
    by_equal : (equal : Bool) → (w == v) ≡ equal → test w ≡ true → list_any (λ u. not (test u)) values ≡ false → (equal || is_among values v) ≡ true
        → (list_any (λ u. not (test u)) values ≡ false → is_among values v ≡ true → test v ≡ true) → test v ≡ true
    by_equal true is passes none h later = subst (λ (u : ℕ). test u ≡ true) (eqb-true w v is) passes
    by_equal false is passes none h later = later none h

    by_test : (b : Bool) → test w ≡ b → (not b || list_any (λ u. not (test u)) values) ≡ false
        → (list_any (λ u. not (test u)) values ≡ false → is_among values v ≡ true → test v ≡ true) → test v ≡ true
    by_test true is none later = by_equal (w == v) refl is none listed later
    by_test false is none later = absurd (false≢true (sym none))

-- a completion of a partial row with a stuck parameter breaks a constraint
stuck_fails : (m : ModelView) (lists : List (List ℕ)) (cells row : List (Option ℕ)) (p : ℕ) → IsCompletion lists cells row → p < length lists
    → is_stuck m lists cells p ≡ true → meets_rules m row ≡ false
stuck_fails m lists cells row p is within stuck =
    let gives = completion_gives lists cells row p is within in
    let none = not-true (list_any (λ v. not (breaks_a_rule m (with_value cells p v))) (get_or lists p []))
    (and_parts (not (is_assigned cells p)) _ stuck).1 in
    broken_fails m m.rules (with_value cells p (value_in row p)) row
    (contains-with_value row cells p (value_in row p) (completion_contains lists cells row is) (Some-unwrap_or (get_or row p None) 0 gives.assigned))
    (none_differs (λ v. breaks_a_rule m (with_value cells p v)) (get_or lists p []) (value_in row p) none gives.listed)

any_stuck_fails : (m : ModelView) (lists : List (List ℕ)) (cells row : List (Option ℕ)) (a n : ℕ) → IsCompletion lists cells row → a + n ≡ length lists
    → list_any (is_stuck m lists cells) (range_with_len a n) ≡ true → meets_rules m row ≡ false
any_stuck_fails m lists cells row a zero is whole stuck = absurd (false≢true stuck)
any_stuck_fails m lists cells row a (suc n) is whole stuck =
    by_case (is_stuck m lists cells a) refl stuck (any_stuck_fails m lists cells row (a + 1) n is (omega arith))
  where
    by_case : (b : Bool) → is_stuck m lists cells a ≡ b → (b || list_any (is_stuck m lists cells) (range_with_len (a + 1) n)) ≡ true
        → (list_any (is_stuck m lists cells) (range_with_len (a + 1) n) ≡ true → meets_rules m row ≡ false) → meets_rules m row ≡ false
    by_case true here h later = stuck_fails m lists cells row a is (omega arith) here
    by_case false here h later = later h

-- no completion of a failing node meets every constraint
failing_fails : (m : ModelView) (lists : List (List ℕ)) (cells row : List (Option ℕ)) → length lists ≡ length m.params → is_failing m lists cells ≡ true
    → IsCompletion lists cells row → meets_rules m row ≡ false
failing_fails m lists cells row as_many failing is = by_case (breaks_a_rule m cells) refl failing
  where
    by_case : (b : Bool) → breaks_a_rule m cells ≡ b → (b || list_any (is_stuck m lists cells) (param_numbers m)) ≡ true → meets_rules m row ≡ false
    by_case true broken h = broken_fails m m.rules cells row (completion_contains lists cells row is) broken
    by_case false broken h = any_stuck_fails m lists cells row 0 (length m.params) is (omega arith) h

agree_away : (params : List ℕ) (row : List (Option ℕ)) (p : ℕ) (a b : Option ℕ) → is_among params p ≡ false → AgreeOn params (set row p a) (set row p b)
agree_away [] row p a b away = tt
agree_away (q ∷ params) row p a b away =
    let parts = or_parts (q == p) (is_among params p) away in
    let differs : q ≢ p = λ same. false≢true (sym parts.0 ∙ eq-eqb q p same) in
    (get_or-set_other row p q a None differs ∙ sym (get_or-set_other row p q b None differs), agree_away params row p a b parts.1)

-- whether constraints hold doesn't depend on a parameter that none of them names
free_rules : (m : ModelView) (rules : List RuleView) (p : ℕ) (row : List (Option ℕ)) (a b : Option ℕ)
    → list_any (λ rule. is_among (body_params rule.body) p) rules ≡ false
    → list_all (λ rule. body_holds m rule.body (set row p a)) rules ≡ list_all (λ rule. body_holds m rule.body (set row p b)) rules
free_rules m [] p row a b away = refl
free_rules m (rule ∷ rules) p row a b away =
    let parts = or_parts (is_among (body_params rule.body) p) (list_any (λ rule. is_among (body_params rule.body) p) rules) away in
    ap (λ (k : Bool). k && list_all (λ rule. body_holds m rule.body (set row p a)) rules)
    (local_body m rule.body (set row p a) (set row p b) (agree_away (body_params rule.body) row p a b parts.0)).1
    ∙ ap (λ (k : Bool). body_holds m rule.body (set row p b) && k) (free_rules m rules p row a b parts.1)

pub is_free : (m : ModelView) (p : ℕ) → is_named m p ≡ false → IsFree (meets_rules m) p
is_free m p away row a b = free_rules m m.rules p row a b away

-- the constrained parameters before this one have values
abbrev pub AssignedBelow : ModelView → List (Option ℕ) → ℕ → Type 0
AssignedBelow m cells k = (q : ℕ) → q < k → is_named m q ≡ true → is_assigned cells q ≡ true

pub decided : (m : ModelView) (cells : List (Option ℕ)) (k : ℕ) → AssignedBelow m cells k → Decided (meets_rules m) cells k
decided m cells k below q before = by_case (is_named m q) refl
  where
    by_case : (b : Bool) → is_named m q ≡ b → (is_assigned cells q ≡ true) ⊎ IsFree (meets_rules m) q
    by_case true named = inl (below q before named)
    by_case false named = inr (is_free m q named)

-- each cell of a node that doesn't fail can have a value
can_be_filled : (m : ModelView) (lists : List (List ℕ)) (cells : List (Option ℕ)) (p : ℕ) → ListsValues m lists → IsListed lists cells
    → list_any (is_stuck m lists cells) (param_numbers m) ≡ false → p < length lists → CanBeFilled (get_or lists p []) (get_or cells p None)
can_be_filled m lists cells p values is none within =
    let inside : p < length (param_numbers m) = omega (arith, length-range_with_len 0 (length m.params), values.as_many) in
    let number : get_or (param_numbers m) p 0 ≡ p = get_or-range_with_len 0 (length m.params) p 0 (omega (arith, values.as_many)) ∙ zero-add p in
    by_cell (get_or cells p None) refl
    (false_from_ne_true (is_stuck m lists cells p) (λ stuck. false≢true
    (sym none ∙ list_any_at (is_stuck m lists cells) (param_numbers m) p 0 inside (ap (is_stuck m lists cells) number ∙ stuck))))
  where
    some_live : (test : ℕ → Bool) (values : List ℕ) → not (list_any test values) ≡ false → 0 < length values
    some_live test [] h = absurd (false≢true (sym h))
    some_live test (v ∷ values) h = omega arith

    by_cell : (cell : Option ℕ) → get_or cells p None ≡ cell → is_stuck m lists cells p ≡ false → CanBeFilled (get_or lists p []) cell
    by_cell (Some v) has h =
        subst (λ (u : ℕ). is_among (get_or lists p []) u ≡ true) (ap (λ (cell : Option ℕ). unwrap_or cell 0) has)
        (is.listed p (ap (λ (cell : Option ℕ). is_some cell) has))
    by_cell None has h =
        some_live (λ v. not (breaks_a_rule m (with_value cells p v))) (get_or lists p [])
        (sym (ap (λ (cell : Option ℕ). not (is_some cell) && not (list_any (λ v. not (breaks_a_rule m (with_value cells p v))) (get_or lists p []))) has) ∙ h)

-- a completion is a row of the model
completion_is_row : (m : ModelView) (lists : List (List ℕ)) (cells row : List (Option ℕ)) → ListsValues m lists → IsCompletion lists cells row
    → is_row m row ≡ true
completion_is_row m lists cells row values is =
    and_from (length row == length m.params) (list_all (has_value m row) (param_numbers m))
    (eq-eqb (length row) (length m.params) (completion_length lists cells row is ∙ values.as_many))
    (has_all 0 (length m.params) (omega arith))
  where
    has : (p : ℕ) → p < length m.params → has_value m row p ≡ true
    has p within =
        let gives = completion_gives lists cells row p is (omega (arith, values.as_many)) in
        and_from (is_assigned row p) _ gives.assigned (lt-ltb (value_in row p) (length (param_at m.params p).values)
        (values.exist p (value_in row p) gives.listed))

    has_all : (a n : ℕ) → a + n ≡ length m.params → list_all (has_value m row) (range_with_len a n) ≡ true
    has_all a zero whole = refl
    has_all a (suc n) whole = and_from (has_value m row a) (list_all (has_value m row) (range_with_len (a + 1) n)) (has a (omega arith))
        (has_all (a + 1) n (omega arith))

-- where every constrained parameter has a value and no constraint is No, all hold on each completion
leaf_meets : (m : ModelView) (lists : List (List ℕ)) (cells row : List (Option ℕ)) → IsSound m → ListsValues m lists → length cells ≡ length lists
    → AssignedBelow m cells (length m.params) → breaks_a_rule m cells ≡ false → IsCompletion lists cells row → meets_rules m row ≡ true
leaf_meets m lists cells row sound values long below unbroken is =
    list_all-from_AllPass (λ rule. body_holds m rule.body row) m.rules (λ i d within.
    holds (get_or m.rules i d) (sound.rules i d within)
    (false_from_ne_true (is_no (body_truth m (get_or m.rules i d).body cells))
    (λ no. false≢true (sym unbroken ∙ list_any_at (λ rule. is_no (body_truth m rule.body cells)) m.rules i d within no)))
    (λ q named. list_any_at (λ rule. is_among (body_params rule.body) q) m.rules i d within named))
  where
    is_no-known : (b : Bool) → is_no (known b) ≡ false → b ≡ true
    is_no-known true h = refl
    is_no-known false h = absurd (false≢true (sym h))

    same_cell : (q : ℕ) → is_named m q ≡ true → get_or cells q None ≡ get_or row q None
    same_cell q named =
        elim (cases_lt q (length m.params)) [
          | inl within ↦ sym (contains-get_or row cells q (completion_contains lists cells row is) (below q within named))
          | inr past ↦ get_or_past cells q None (omega (arith, values.as_many))
              ∙ sym (get_or_past row q None (omega (arith, values.as_many, completion_length lists cells row is)))
        ]

    holds : (rule : RuleView) → IsSoundBody m.params rule.body → is_no (body_truth m rule.body cells) ≡ false
        → ((q : ℕ) → is_among (body_params rule.body) q ≡ true → is_named m q ≡ true) → body_holds m rule.body row ≡ true
    holds rule good other named =
        let same = (local_body m rule.body cells row (agree_each (body_params rule.body) cells row (λ q listed. same_cell q (named q listed)))).0 in
        is_no-known (body_holds m rule.body row)
        (ap is_no (sym (same ∙ rows_are_known m rule.body row good (completion_is_row m lists cells row values is))) ∙ other)

-- what a search that ends so gives
abbrev pub given_by : Outcome → List (Option ℕ) → Option (List (Option ℕ))
given_by outcome row = if outcome.found then Some row else None

-- the first value with a successful visit gives the first completion
try_given : (visited : List (Option ℕ) → Outcome) (reach fill : List (Option ℕ) → List (Option ℕ)) (cells : List (Option ℕ)) (p : ℕ) (values : List ℕ)
    → tried (λ v. given_by (visited (with_value cells p v)) (fill (reach (with_value cells p v)))) values
    ≡ given_by (try_values visited cells p values) (fill (reached_by visited reach cells p values))
try_given visited reach fill cells p [] = refl
try_given visited reach fill cells p (v ∷ values) =
    by_case (visited (with_value cells p v)) (visited (with_value cells p v)).found refl (try_given visited reach fill cells p values)
  where
    by_case : (first : Outcome) (b : Bool) → first.found ≡ b
        → tried (λ v. given_by (visited (with_value cells p v)) (fill (reach (with_value cells p v)))) values ≡ given_by (try_values visited cells p values)
        (fill (reached_by visited reach cells p values))
        → option_or (if b then Some (fill (reach (with_value cells p v))) else None)
        (tried (λ v. given_by (visited (with_value cells p v)) (fill (reach (with_value cells p v)))) values)
        ≡ given_by (if b then first else record {
          found = (try_values visited cells p values).found;
          cost =
              first.cost + (try_values visited cells p values).cost;
        })
        (fill (if b then reach (with_value cells p v) else reached_by visited reach cells p values))
    by_case first true is later = sym (ap (λ (b : Bool). if b then Some (fill (reach (with_value cells p v))) else None) is)
    by_case first false is later = later

-- the partial row with a listed value is listed
pub IsListed-with_value : (lists : List (List ℕ)) (cells : List (Option ℕ)) (p v : ℕ) → IsListed lists cells → p < length lists
    → is_among (get_or lists p []) v ≡ true
    → IsListed lists (with_value cells p v)
IsListed-with_value lists cells p v is within listed = record {
  long = length-set cells p (Some v) ∙ is.long;
  listed = λ q assigned.
      elim (cases_eq q p) [
        | inl same ↦
            let here : get_or (with_value cells p v) q None ≡ Some v = ap (λ (k : ℕ). get_or (with_value cells p v) k None) same
            ∙ get_or-set_same cells p (Some v) None (omega (arith, is.long)) in
            ap (λ (cell : Option ℕ). is_among (get_or lists q []) (unwrap_or cell 0)) here ∙ ap (λ (k : ℕ). is_among (get_or lists k []) v) same ∙ listed
        | inr differs ↦
            let there : get_or (with_value cells p v) q None ≡ get_or cells q None = get_or-set_other cells p q (Some v) None differs in
            ap (λ (cell : Option ℕ). is_among (get_or lists q []) (unwrap_or cell 0)) there
            ∙ is.listed q (sym (ap (λ (cell : Option ℕ). is_some cell) there) ∙ assigned)
      ];
}

-- one parameter more has a value, or isn't constrained
below_skip : (m : ModelView) (cells : List (Option ℕ)) (k : ℕ) → AssignedBelow m cells k → (is_named m k ≡ true → is_assigned cells k ≡ true)
    → AssignedBelow m cells (k + 1)
below_skip m cells k below here q before named =
    elim (cases_eq q k) [
      | inl same ↦ subst (λ (j : ℕ). is_assigned cells j ≡ true) (sym same) (here (subst (λ (j : ℕ). is_named m j ≡ true) same named))
      | inr differs ↦ below q (omega (arith, differs)) named
    ]

below_set : (m : ModelView) (cells : List (Option ℕ)) (k v : ℕ) → AssignedBelow m cells k → k < length cells → AssignedBelow m (with_value cells k v) (k + 1)
below_set m cells k v below within q before named =
    elim (cases_eq q k) [
      | inl same ↦ ap (λ (cell : Option ℕ). is_some cell) (ap (λ (j : ℕ). get_or (with_value cells k v) j None) same
          ∙ get_or-set_same cells k (Some v) None within)
      | inr differs ↦ ap (λ (cell : Option ℕ). is_some cell) (get_or-set_other cells k q (Some v) None differs) ∙ below q (omega (arith, differs)) named
    ]

pub failing_gives : (m : ModelView) (lists : List (List ℕ)) (cells : List (Option ℕ)) → ListsValues m lists → IsListed lists cells
    → is_failing m lists cells ≡ true
    → first_of lists cells (meets_rules m) ≡ None
failing_gives m lists cells values is failing =
    first_of-none lists cells (meets_rules m) is.long (λ row completes. failing_fails m lists cells row values.as_many failing completes)

pub leaf_gives : (m : ModelView) (lists : List (List ℕ)) (cells : List (Option ℕ)) → IsSound m → ListsValues m lists → IsListed lists cells
    → AssignedBelow m cells (length m.params) → is_failing m lists cells ≡ false → first_of lists cells (meets_rules m) ≡ Some (filled lists cells)
leaf_gives m lists cells sound values is below failing =
    let parts = or_parts (breaks_a_rule m cells) (list_any (is_stuck m lists cells) (param_numbers m)) failing in
    let can = λ (p : ℕ) (within : p < length lists). can_be_filled m lists cells p values is parts.1 within in
    first_of-filled lists cells (meets_rules m) is.long can
    (leaf_meets m lists cells (filled lists cells) sound values is.long below parts.0 (filled_is_completion lists cells is.long can))

-- the search from a node gives its first completion that meets every constraint
abbrev pub SearchGives : ModelView → List (List ℕ) → List ℕ → List (Option ℕ) → Type 0
SearchGives m lists params cells = first_of lists cells (meets_rules m) ≡ given_by (visit m lists params cells) (filled lists (reached m lists params cells))

-- so does the one that visits each value of the next constrained parameter, if the searches below do
node_gives : (m : ModelView) (lists : List (List ℕ)) (k : ℕ) (params : List ℕ) (cells : List (Option ℕ)) → ListsValues m lists → IsListed lists cells
    → k < length m.params → AssignedBelow m cells k
    → ((other : List (Option ℕ)) → IsListed lists other → AssignedBelow m other (k + 1) → SearchGives m lists params other)
    → SearchGives m lists (k ∷ params) cells
node_gives m lists k params cells values is within below later = by_cell (get_or cells k None) refl
  where
    by_failing : (b : Bool) → is_failing m lists cells ≡ b → get_or cells k None ≡ None → first_of lists cells (meets_rules m)
        ≡ given_by (if b then record { found = false; cost = 1 } else record {
          found =
              (try_values (visit m lists params) cells k (get_or lists k [])).found;
          cost =
              suc (try_values (visit m lists params) cells k (get_or lists k [])).cost;
        })
        (filled lists (reached_by (visit m lists params) (reached m lists params) cells k (get_or lists k [])))
    by_failing true failing unassigned = failing_gives m lists cells values is failing
    by_failing false failing unassigned =
        first_of-branch lists cells (meets_rules m) k is.long (omega (arith, is.long, values.as_many)) unassigned (decided m cells k below)
        ∙ tried_same (λ v. first_of lists (with_value cells k v) (meets_rules m))
        (λ v. given_by (visit m lists params (with_value cells k v)) (filled lists (reached m lists params (with_value cells k v)))) (get_or lists k [])
        (λ v listed. later (with_value cells k v) (IsListed-with_value lists cells k v is (omega (arith, values.as_many)) listed)
        (below_set m cells k v below (omega (arith, is.long, values.as_many))))
        ∙ try_given (visit m lists params) (reached m lists params) (filled lists) cells k (get_or lists k [])

    by_cell : (cell : Option ℕ) → get_or cells k None ≡ cell → first_of lists cells (meets_rules m)
        ≡ given_by (if is_some cell then visit m lists params cells
        else if is_failing m lists cells then record { found = false; cost = 1 }
        else record {
          found = (try_values (visit m lists params) cells k (get_or lists k [])).found;
          cost =
              suc (try_values (visit m lists params) cells k (get_or lists k [])).cost;
        })
        (filled lists (if is_some cell then reached m lists params cells else reached_by (visit m lists params) (reached m lists params) cells k
        (get_or lists k [])))
    by_cell (Some v) has = later cells is (below_skip m cells k below (λ named. ap (λ (cell : Option ℕ). is_some cell) has))
    by_cell None has = by_failing (is_failing m lists cells) refl has

-- of a node where the constrained parameters before the k-th have values
pub visit_gives : (m : ModelView) (lists : List (List ℕ)) (k n : ℕ) (cells : List (Option ℕ)) → IsSound m → ListsValues m lists → IsListed lists cells
    → k + n ≡ length m.params → AssignedBelow m cells k → SearchGives m lists (filter (is_named m) (range_with_len k n)) cells
visit_gives m lists k zero cells sound values is whole below = by_case (is_failing m lists cells) refl
  where
    by_case : (b : Bool) → is_failing m lists cells ≡ b → first_of lists cells (meets_rules m) ≡ (if not b then Some (filled lists cells) else None)
    by_case true failing = failing_gives m lists cells values is failing
    by_case false failing = leaf_gives m lists cells sound values is (λ q before. below q (omega arith)) failing
visit_gives m lists k (suc n) cells sound values is whole below =
    by_named (is_named m k) refl (λ other good settled. visit_gives m lists (k + 1) n other sound values good (omega arith) settled)
  where
    by_named : (b : Bool) → is_named m k ≡ b
        → ((other : List (Option ℕ)) → IsListed lists other → AssignedBelow m other (k + 1)
        → SearchGives m lists (filter (is_named m) (range_with_len (k + 1) n)) other)
        → SearchGives m lists (cond b (k ∷ filter (is_named m) (range_with_len (k + 1) n)) (filter (is_named m) (range_with_len (k + 1) n))) cells
    by_named false named later = later cells is (below_skip m cells k below (λ h. absurd (false≢true (sym named ∙ h))))
    by_named true named later = node_gives m lists k (filter (is_named m) (range_with_len (k + 1) n)) cells values is (omega arith) below later
