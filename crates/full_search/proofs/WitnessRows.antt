-- Which constraints a row breaks when a parameter gets another value, and the marks of a witness.
use Rattle.std.proofs.Common.{◌≡◌, ℕ, suc, ◌+◌, ◌-◌, ◌<◌, ◌≤◌, Bool, true, false, not, List, [], length, filter, get_or, set}
use Rattle.std.proofs.Common.{Option, Some, None, is_some, ◌∙◌, sym, ap, subst, refl, arith, inl, inr, ◌⊎◌}
use Rattle.std.specs.List.{count_by}
use Rattle.std.proofs.lemmas.Bool.{false≢true, cases_Bool, cases_eq, false_from_ne_true, not-false}
use Rattle.std.proofs.lemmas.List.{get_or-set_other, get_or-set_same, get_or_default, length-set, set-get_or}
use Rattle.std.proofs.lemmas.List.Folds.{list_any_at}
use Rattle.std.proofs.lemmas.List.Sums.{list_all-from_AllPass}
use Rattle.cov_model.specs.declared.truth.Truth.{Truth}
use Rattle.cov_model.specs.declared.truth.Truth.TheVariants.{Yes, No, Unknown}
use Rattle.cov_model.specs.believed.Kleene.{body_truth}
use Rattle.cov_model.specs.believed.Meaning.{body_holds}
use Rattle.cov_model.specs.believed.Rows.{is_assigned, with_value}
use Rattle.cov_model.specs.believed.Sound.{ModelView, IsSound}
use Rattle.cov_model.specs.Sound.{no_rule, rule_at}
use Rattle.cov_model.specs.believed.Valid.{param_numbers}
use Rattle.cov_model.specs.believed.Views.{RuleView}
use Rattle.cov_model.proofs.CellLemmas.{contains-refl}
use Rattle.cov_model.proofs.KnownLemmas.{yes_stays}
use Rattle.compiled_rules.specs.Codes.{is_yes}
use Rattle.definitions.specs.believed.Completion.{meets_rules}
use Rattle.definitions.specs.believed.Demand.{is_among}
use Rattle.definitions.specs.Laws.{GivesListed}
use Rattle.definitions.specs.believed.Search.{body_params, constrained_params}
use Rattle.definitions.proofs.Members.{among_has, contains_member, has_filter, member_of_all, of_among, of_filter, of_map}
use Rattle.definitions.proofs.SliceLemmas.{has_params}
use Rattle.feasibility.specs.Tree.{ListsValues, TreeView, is_named, constrained_at, naming, no_values, undecided, undecided_by}
use Rattle.feasibility.specs.declared.constrained.Constrained.{Constrained}
use Rattle.feasibility.proofs.Broken.{decided}
use Rattle.feasibility.proofs.Local.{agree_set, local_body}
use Rattle.feasibility.proofs.Naming.{HasUndecided, has_undecided, undecided_exist}
use Rattle.feasibility.proofs.NarrowedSets.{count_none, count_some}
use Rattle.full_search.specs.Witnesses.{BreaksOne, IsWitness, MarksAnew, is_broken_on}
use Rattle.full_search.specs.declared.witness.Witness.{Witness}
use Rattle.full_search.proofs.GivenRows.{given_exists, given_with}

-- a constraint that doesn't name a parameter is broken whatever the parameter's value
pub broken_away : (m : ModelView) (row : List (Option ℕ)) (p : ℕ) (cell : Option ℕ) (k : ℕ) → is_among (body_params (rule_at m k).body) p ≡ false
    → is_broken_on m (set row p cell) k ≡ is_broken_on m row k
broken_away m row p cell k away =
    ap (λ (truth : Truth). not (is_yes truth)) (local_body m (rule_at m k).body (set row p cell) row (agree_set (body_params (rule_at m k).body) row p cell away)).0

-- one that does holds where the value doesn't leave it undecided
pub broken_decided : (m : ModelView) (row : List (Option ℕ)) (p v k : ℕ) → IsSound m → length row ≡ length m.params → get_or row p None ≡ Some v → 0 < k
    → k ≤ length m.rules → is_among (body_params (rule_at m k).body) p ≡ true → is_among (undecided m p v) k ≡ false → is_broken_on m row k ≡ false
broken_decided m row p v k sound long is some most named away = ap not (decided m row p v k sound long is some most named away)

-- those that a value leaves undecided name the parameter
pub undecided_names : (m : ModelView) (p v k : ℕ) → IsSound m → is_among (undecided m p v) k ≡ true → is_among (body_params (rule_at m k).body) p ≡ true
undecided_names m p v k sound listed =
    let named = of_filter (λ j. not (is_yes (body_truth m (rule_at m j).body (with_value (no_values m) p v)))) (naming m p) k (of_among (undecided m p v) k listed) in
    let found = of_map (λ rule. rule.number) (filter (λ rule. is_among (body_params rule.body) p) m.rules) k named.0 in
    let has = of_filter (λ rule. is_among (body_params rule.body) p) m.rules found.0 found.1 in
    let at = contains_member m.rules found.0 has.0 in
    let read : get_or m.rules at.0 no_rule ≡ found.0 = get_or_default m.rules at.0 no_rule found.0 at.1 ∙ at.2 in
    let place : at.0 ≡ k - 1 = omega (arith, sound.numbered at.0 no_rule at.1, ap (λ (rule : RuleView). rule.number) read, found.2) in
    subst (λ (i : ℕ). is_among (body_params (get_or m.rules i no_rule).body) p ≡ true) place
    (subst (λ (rule : RuleView). is_among (body_params rule.body) p ≡ true) (sym read) has.1)

-- no constraint has the number 0
not_undecided : (m : ModelView) (p v : ℕ) → IsSound m → is_among (undecided m p v) 0 ≡ false
not_undecided m p v sound =
    false_from_ne_true (is_among (undecided m p v) 0) (λ listed.
    absurd (omega (
      arith,
      (member_of_all (λ k. (0 < k) × (k ≤ length m.rules)) (undecided m p v) 0 (undecided_exist m p v sound)
          (of_among (undecided m p v) 0 listed)).0,
    )))

-- what is read of a constrained parameter when its value changes
pub record PutReads (tree : TreeView) (row : List (Option ℕ)) (p w v : ℕ) (entry : Constrained) : Type 0 where
  pub before : get_or row p None ≡ Some w
  pub old : HasUndecided tree.model p w entry
  pub new : HasUndecided tree.model p v entry

pub put_reads : (tree : TreeView) (row : List (Option ℕ)) (p w v : ℕ) (entry : Constrained) (cell : Option ℕ) → IsSound tree.model
    → ListsValues tree.model tree.values → GivesListed tree.values row → p < length tree.model.params → is_among (get_or tree.values p []) v ≡ true
    → entry ≡ undecided_by tree.model p → cell ≡ get_or row entry.param None → cell ≡ Some w → PutReads tree row p w v entry
put_reads tree row p w v entry cell sound values given within listed is read some =
    let before : get_or row p None ≡ Some w = ap (λ (e : Constrained). get_or row e.param None) (sym is) ∙ sym read ∙ some in
    record {
      before = before;
      old = has_undecided tree.model p w entry sound is (given_exists tree.model tree.values row p w values given within before);
      new = has_undecided tree.model p v entry sound is (values.exist p v listed);
    }

-- a witness with another value of a constrained parameter: the marks of what its value left undecided were cleared,
-- and those of what the other leaves undecided made anew
pub witness_put : (tree : TreeView) (old new : Witness) (p w v : ℕ) (cleared : List Bool) → IsSound tree.model → ListsValues tree.model tree.values
    → IsWitness tree old → p < length tree.model.params → is_among (get_or tree.values p []) v ≡ true → get_or old.row p None ≡ Some w
    → new.row ≡ with_value old.row p v → MarksAnew (undecided tree.model p w) (λ _. false) old.broken cleared
    → MarksAnew (undecided tree.model p v) (is_broken_on tree.model (with_value old.row p v)) cleared new.broken → IsWitness tree new
witness_put tree old new p w v cleared sound values kept within listed is row first second = record {
  row = subst (GivesListed tree.values) (sym row) (given_with tree.values old.row p v kept.row (omega (arith, within, values.as_many)) listed);
  long = second.long ∙ first.long ∙ kept.long;
  first = second.others 0 (not_undecided m p v sound) ∙ first.others 0 (not_undecided m p w sound) ∙ kept.first;
  marks = λ k some most.
      elim (cases_Bool (is_among (undecided m p v) k)) [
        | inl left ↦ second.those k left ∙ ap (λ (given : List (Option ℕ)). is_broken_on m given k) (sym row)
        | inr away ↦
            second.others k away ∙ cleared_at k some most away ∙ ap (λ (given : List (Option ℕ)). is_broken_on m given k) (sym row)
      ];
}
  where
    m : ModelView
    m = tree.model

    long : length old.row ≡ length m.params
    long = kept.row.as_long ∙ values.as_many

    here : get_or (with_value old.row p v) p None ≡ Some v
    here = get_or-set_same old.row p (Some v) None (omega (arith, within, long))

    cleared_at : (k : ℕ) → 0 < k → k ≤ length m.rules → is_among (undecided m p v) k ≡ false → get_or cleared k false ≡ is_broken_on m (with_value old.row p v) k
    cleared_at k some most away =
        elim (cases_Bool (is_among (body_params (rule_at m k).body) p)) [
          | inl named ↦
              unbroken (cases_Bool (is_among (undecided m p w) k)) named
              ∙ sym (broken_decided m (with_value old.row p v) p v k sound (length-set old.row p (Some v) ∙ long) here some most named away)
          | inr unnamed ↦
              first.others k (false_from_ne_true (is_among (undecided m p w) k) (λ left. false≢true (sym unnamed ∙ undecided_names m p w k sound left)))
              ∙ kept.marks k some most ∙ sym (broken_away m old.row p (Some v) k unnamed)
        ]
      where
        unbroken : (is_among (undecided m p w) k ≡ true) ⊎ (is_among (undecided m p w) k ≡ false) → is_among (body_params (rule_at m k).body) p ≡ true
            → get_or cleared k false ≡ false
        unbroken (inl left) named = first.those k left
        unbroken (inr gone) named = first.others k gone ∙ kept.marks k some most ∙ broken_decided m old.row p w k sound long is some most named gone

-- a parameter that some constraint names is among those that constraints name
pub named_among : (m : ModelView) (p : ℕ) → p < length m.params → is_named m p ≡ true → is_among (constrained_params m) p ≡ true
named_among m p low named = among_has (constrained_params m) p (has_filter (is_named m) (param_numbers m) p (has_params m p low) named)

-- one that none names isn't named by the constraint of a number
away_from : (m : ModelView) (p k : ℕ) → is_named m p ≡ false → 0 < k → k ≤ length m.rules → is_among (body_params (rule_at m k).body) p ≡ false
away_from m p k unnamed some most =
    false_from_ne_true (is_among (body_params (rule_at m k).body) p) (λ named.
    false≢true (sym unnamed ∙ list_any_at (λ rule. is_among (body_params rule.body) p) m.rules (k - 1) no_rule (omega (arith, some, most)) named))

-- a witness whose row is the same, or gives another listed value to a parameter that no constraint names
pub witness_given : (tree : TreeView) (old new : Witness) (p v : ℕ) → IsWitness tree old → p < length tree.values → is_among (get_or tree.values p []) v ≡ true
    → (is_named tree.model p ≡ true → get_or old.row p None ≡ Some v) → new.row ≡ with_value old.row p v → new.broken ≡ old.broken → IsWitness tree new
witness_given tree old new p v kept within listed same row broken = record {
  row = subst (GivesListed tree.values) (sym row) (given_with tree.values old.row p v kept.row within listed);
  long = ap length broken ∙ kept.long;
  first = ap (λ (marks : List Bool). get_or marks 0 false) broken ∙ kept.first;
  marks = λ k some most.
      ap (λ (marks : List Bool). get_or marks k false) broken ∙ kept.marks k some most
      ∙ sym (ap (λ (given : List (Option ℕ)). is_broken_on tree.model given k) row ∙ unchanged k some most (cases_Bool (is_named tree.model p)));
}
  where
    unchanged : (k : ℕ) → 0 < k → k ≤ length tree.model.rules → (is_named tree.model p ≡ true) ⊎ (is_named tree.model p ≡ false)
        → is_broken_on tree.model (with_value old.row p v) k ≡ is_broken_on tree.model old.row k
    unchanged k some most (inl named) =
        ap (λ (given : List (Option ℕ)). is_broken_on tree.model given k)
        (ap (λ (cell : Option ℕ). set old.row p cell) (sym (same named)) ∙ set-get_or old.row p None)
    unchanged k some most (inr unnamed) = broken_away tree.model old.row p (Some v) k (away_from tree.model p k unnamed some most)

-- the row gives the parameters before a place what the cells give them
abbrev pub GivesBelow : (ℕ → ℕ) → List (Option ℕ) → List (Option ℕ) → ℕ → Type 0
GivesBelow param row cells n =
    (j : ℕ) → j < n → is_assigned cells (param j) ≡ true → get_or row (param j) None ≡ get_or cells (param j) None

-- and one more, which got its value, or has none in the cells
same_with : (row cells : List (Option ℕ)) (p v q : ℕ) → p < length row → get_or cells p None ≡ Some v
    → ((q ≡ p → ⊥) → get_or row q None ≡ get_or cells q None) → get_or (with_value row p v) q None ≡ get_or cells q None
same_with row cells p v q within is others =
    elim (cases_eq q p) [
      | inl same ↦
          ap (λ (k : ℕ). get_or (with_value row p v) k None) same ∙ get_or-set_same row p (Some v) None within
          ∙ sym (ap (λ (k : ℕ). get_or cells k None) same ∙ is)
      | inr differs ↦ get_or-set_other row p q (Some v) None differs ∙ others differs
    ]

pub gives_more : (param : ℕ → ℕ) (old new cells : List (Option ℕ)) (n v : ℕ) → param n < length old → get_or cells (param n) None ≡ Some v
    → new ≡ with_value old (param n) v → GivesBelow param old cells n → GivesBelow param new cells (n + 1)
gives_more param old new cells n v within is row below j low given =
    ap (λ (given : List (Option ℕ)). get_or given (param j) None) row
    ∙ same_with old cells (param n) v (param j) within is (λ differs. below j (before differs) given)
  where
    before : (param j ≡ param n → ⊥) → j < n
    before differs = elim (cases_eq j n) [ inl same ↦ absurd (differs (ap param same)) | inr other ↦ omega (arith, low, other) ]

pub gives_none : (param : ℕ → ℕ) (row cells : List (Option ℕ)) (n : ℕ) → get_or cells (param n) None ≡ None → GivesBelow param row cells n
    → GivesBelow param row cells (n + 1)
gives_none param row cells n none below j low given =
    elim (cases_eq j n) [
      | inl same ↦ absurd (false≢true (sym (ap is_some (ap (λ (k : ℕ). get_or cells (param k) None) same ∙ none)) ∙ given))
      | inr other ↦ below j (omega (arith, low, other)) given
    ]

-- another parameter that it gives what the cells give stays so
pub gives_still : (old new cells : List (Option ℕ)) (p v q : ℕ) → p < length old → get_or cells p None ≡ Some v → new ≡ with_value old p v
    → get_or old q None ≡ get_or cells q None → get_or new q None ≡ get_or cells q None
gives_still old new cells p v q within is row same =
    ap (λ (given : List (Option ℕ)). get_or given q None) row ∙ same_with old cells p v q within is (λ differs. same)

-- so for each constrained parameter, where the row does so at each place
pub same_named : (m : ModelView) (row cells : List (Option ℕ)) (n : ℕ) → n ≡ length (constrained_params m) → GivesBelow (constrained_at m) row cells n
    → (q : ℕ) → is_among (constrained_params m) q ≡ true → is_assigned cells q ≡ true → get_or row q None ≡ get_or cells q None
same_named m row cells n whole each q named given =
    let at = contains_member (constrained_params m) q (of_among (constrained_params m) q named) in
    let is : constrained_at m at.0 ≡ q = get_or_default (constrained_params m) at.0 0 q at.1 ∙ at.2 in
    subst (λ (k : ℕ). get_or row k None ≡ get_or cells k None) is (each at.0 (omega (arith, at.1, whole)) (ap (is_assigned cells) is ∙ given))

-- the one truth of which this test holds
yes_is : (t : Truth) → is_yes t ≡ true → t ≡ Yes
yes_is Yes holds = refl
yes_is No holds = absurd (false≢true holds)
yes_is Unknown holds = absurd (false≢true holds)

-- without a mark every constraint holds, and a mark tells of one that doesn't
pub unmarked_meets : (tree : TreeView) (witness : Witness) → IsWitness tree witness → count_by (λ mark. mark) witness.broken ≡ 0
    → meets_rules tree.model witness.row ≡ true
unmarked_meets tree witness kept none =
    list_all-from_AllPass (λ rule. body_holds tree.model rule.body witness.row) tree.model.rules (λ i d within.
    let place : i + 1 - 1 ≡ i = omega arith in
    let unbroken : is_broken_on tree.model witness.row (i + 1) ≡ false =
    sym (kept.marks (i + 1) (omega arith) (omega (arith, within))) ∙ count_none witness.broken (i + 1) none in
    yes_stays tree.model (get_or tree.model.rules i d).body witness.row witness.row (contains-refl witness.row)
    (yes_is (body_truth tree.model (get_or tree.model.rules i d).body witness.row)
    (ap (λ (rule : RuleView). is_yes (body_truth tree.model rule.body witness.row))
    (get_or_default tree.model.rules i d no_rule within ∙ sym (ap (λ (j : ℕ). get_or tree.model.rules j no_rule) place))
    ∙ not-false (is_yes (body_truth tree.model (rule_at tree.model (i + 1)).body witness.row)) unbroken)))

pub marked_breaks : (tree : TreeView) (witness : Witness) → IsWitness tree witness → 0 < count_by (λ mark. mark) witness.broken
    → BreaksOne tree.model witness.row
marked_breaks tree witness kept marked =
    let found = count_some witness.broken marked in
    let some : 0 < found.0 = above_first found.0 found.2 in
    let most : found.0 ≤ length tree.model.rules = omega (arith, found.1, kept.long) in
    record { number = found.0; some = some; most = most; broken = sym (kept.marks found.0 some most) ∙ found.2 }
  where
    above_first : (k : ℕ) → get_or witness.broken k false ≡ true → 0 < k
    above_first k set =
        elim (cases_eq k 0) [
          | inl zero ↦ absurd (false≢true (sym kept.first ∙ ap (λ (j : ℕ). get_or witness.broken j false) (sym zero) ∙ set))
          | inr other ↦ omega (arith, other)
        ]

-- a row whose constraints below a number are marked
pub record IsMarkedBelow (m : ModelView) (witness : Witness) (n : ℕ) : Type 0 where
  pub long : length witness.broken ≡ suc (length m.rules)
  pub first : get_or witness.broken 0 false ≡ false
  pub marks : (k : ℕ) → 0 < k → k < n → get_or witness.broken k false ≡ is_broken_on m witness.row k

pub marked_all : (tree : TreeView) (witness : Witness) (n : ℕ) → GivesListed tree.values witness.row → length tree.model.rules < n
    → IsMarkedBelow tree.model witness n → IsWitness tree witness
marked_all tree witness n given whole marked = record {
  row = given;
  long = marked.long;
  first = marked.first;
  marks = λ k some most. marked.marks k some (omega (arith, most, whole));
}
