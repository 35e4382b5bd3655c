-- A question has the answer and the cost of another one that gives the parameters which constraints name the same values.
use Rattle.std.proofs.Common.{◌≡◌, ℕ, ◌-◌, ◌<◌, ◌≤◌, Bool, true, false, not, ◌&&◌, ◌||◌, List, [], ◌∷◌, length, replicate}
use Rattle.std.proofs.Common.{Option, Some, None, is_some, get_or, ◌∙◌, sym, ap, subst, refl, arith, inl, inr}
use Rattle.std.specs.List.{list_any}
use Rattle.std.proofs.lemmas.Bool.{false≢true, cases_Bool, cases_eq, cases_lt, and_right, or_left}
use Rattle.std.proofs.lemmas.List.Elements.{All-get_or, All-replicate, All-set}
use Rattle.std.proofs.lemmas.List.{get_or-set_other, get_or_default, get_or_past, length-replicate, length-set}
use Rattle.value_text.proofs.ListLemmas.{none_at}
use Rattle.cov_model.specs.believed.Sound.{ModelView}
use Rattle.cov_model.specs.believed.Rows.{is_assigned, with_value}
use Rattle.cov_model.specs.believed.Valid.{param_numbers}
use Rattle.definitions.specs.believed.Demand.{is_among}
use Rattle.definitions.specs.believed.Search.{Outcome, breaks_a_rule, constrained_params, is_failing, is_stuck, try_values, visit}
use Rattle.definitions.proofs.Members.{Has, contains_member, has_filter}
use Rattle.definitions.proofs.PartialRowLemmas.{among_head, among_tail}
use Rattle.definitions.proofs.SliceLemmas.{has_params}
use Rattle.feasibility.specs.declared.answer.Answer.{Answer}
use Rattle.feasibility.specs.declared.answer.Answer.TheVariants.{Yes, No, Spent}
use Rattle.feasibility.specs.declared.answered.Answered.{Answered}
use Rattle.feasibility.specs.Answers.{Told}
use Rattle.feasibility.specs.Recurring.{AgreeOnNamed, AreAnswered, IsAnswered, kept_at, none_answered, unanswered}
use Rattle.feasibility.specs.Tree.{ListsValues, is_named, no_values}
use Rattle.feasibility.proofs.Alike.{any_same, breaks_same, leaf_told, node_told, same_with, try_alike}
use Rattle.feasibility.proofs.Deciding.{stuck_fails}
use Rattle.feasibility.proofs.Extendable.{among_filter_test}
use Rattle.feasibility.proofs.Visits.{told_no, told_yes}

-- with the same value more they agree too
pub agree_with : (m : ModelView) (a b : List (Option ℕ)) (p v : ℕ) → AgreeOnNamed m a b → AgreeOnNamed m (with_value a p v) (with_value b p v)
agree_with m a b p v agree = record {
  long = length-set a p (Some v) ∙ agree.long;
  also = length-set b p (Some v) ∙ agree.also;
  named = λ q is. elim (cases_eq p q) [
    | inl same ↦ same_with a b p q v (agree.long ∙ sym agree.also) same
    | inr apart ↦
        get_or-set_other a p q (Some v) None (λ e. apart (sym e)) ∙ agree.named q is
        ∙ sym (get_or-set_other b p q (Some v) None (λ e. apart (sym e)))
  ];
}

-- the value of a parameter that no constraint names breaks none
breaks_unnamed : (m : ModelView) (cells : List (Option ℕ)) (p v : ℕ) → is_named m p ≡ false
    → breaks_a_rule m (with_value cells p v) ≡ breaks_a_rule m cells
breaks_unnamed m cells p v unnamed =
    breaks_same m m.rules (with_value cells p v) cells
    (λ q named. get_or-set_other cells p q (Some v) None (λ same. false≢true (sym unnamed ∙ ap (is_named m) (sym same) ∙ named)))

-- each parameter has a value to try
abbrev pub HasValues : ModelView → List (List ℕ) → Type 0
HasValues m lists = (p : ℕ) → p < length m.params → get_or lists p [] ≡ [] → ⊥

pub has_values : (m : ModelView) (lists : List (List ℕ)) → is_failing m lists (no_values m) ≡ false → HasValues m lists
has_values m lists node p within none =
    false≢true (sym node ∙ stuck_fails m lists (no_values m) p within (ap (λ cell. is_some cell) (none_at (length m.params) p))
    (λ w has. absurd (subst (λ (list : List ℕ). Has list w) none has)))

-- so a parameter that no constraint names isn't stuck
never_stuck : (m : ModelView) (lists : List (List ℕ)) (cells : List (Option ℕ)) (p : ℕ) → HasValues m lists → breaks_a_rule m cells ≡ false
    → p < length m.params → is_named m p ≡ false → is_stuck m lists cells p ≡ false
never_stuck m lists cells p some whole within unnamed =
    and_right (not (is_assigned cells p)) (not (list_any (λ v. not (breaks_a_rule m (with_value cells p v))) (get_or lists p [])))
    (ap not (of_list (get_or lists p []) refl))
  where
    of_list : (list : List ℕ) → get_or lists p [] ≡ list → list_any (λ v. not (breaks_a_rule m (with_value cells p v))) list ≡ true
    of_list [] is = absurd (some p within is)
    of_list (v ∷ values) is =
        or_left (not (breaks_a_rule m (with_value cells p v))) (list_any (λ w. not (breaks_a_rule m (with_value cells p w))) values)
        (ap not (breaks_unnamed m cells p v unnamed ∙ whole))

-- the same parameters are stuck
past_stuck : (m : ModelView) (lists : List (List ℕ)) (cells : List (Option ℕ)) (p : ℕ) → length lists ≤ p → length cells ≤ p
    → is_stuck m lists cells p ≡ true
past_stuck m lists cells p listed long =
    ap (λ cell. not (is_some cell) && not (list_any (λ v. not (breaks_a_rule m (with_value cells p v))) (get_or lists p [])))
    (get_or_past cells p None long)
    ∙ ap (λ (list : List ℕ). not (list_any (λ v. not (breaks_a_rule m (with_value cells p v))) list)) (get_or_past lists p [] listed)

stuck_agree : (m : ModelView) (lists : List (List ℕ)) (a b : List (Option ℕ)) → length lists ≡ length m.params → HasValues m lists
    → breaks_a_rule m a ≡ false → breaks_a_rule m b ≡ false → AgreeOnNamed m a b → (p : ℕ) → is_stuck m lists a p ≡ is_stuck m lists b p
stuck_agree m lists a b many some whole also agree p = elim (cases_Bool (is_named m p)) [
  | inl named ↦
      ap (λ cell. not (is_some cell) && not (list_any (λ v. not (breaks_a_rule m (with_value a p v))) (get_or lists p []))) (agree.named p named)
      ∙ ap (λ live. not (is_assigned b p) && not live) (any_same (λ v. not (breaks_a_rule m (with_value a p v)))
      (λ v. not (breaks_a_rule m (with_value b p v))) (get_or lists p [])
      (λ v. ap not (breaks_same m m.rules (with_value a p v) (with_value b p v) (agree_with m a b p v agree).named)))
  | inr unnamed ↦ elim (cases_lt p (length m.params)) [
    | inl within ↦ never_stuck m lists a p some whole within unnamed ∙ sym (never_stuck m lists b p some also within unnamed)
    | inr past ↦
        past_stuck m lists a p (omega (arith, past, many)) (omega (arith, past, agree.long))
        ∙ sym (past_stuck m lists b p (omega (arith, past, many)) (omega (arith, past, agree.also)))
  ]
]

-- the same nodes fail
fails_agree : (m : ModelView) (lists : List (List ℕ)) (a b : List (Option ℕ)) → length lists ≡ length m.params → HasValues m lists
    → AgreeOnNamed m a b → is_failing m lists a ≡ is_failing m lists b
fails_agree m lists a b many some agree =
    let same : breaks_a_rule m a ≡ breaks_a_rule m b = breaks_same m m.rules a b agree.named in
    elim (cases_Bool (breaks_a_rule m a)) [
      | inl broken ↦
          or_left (breaks_a_rule m a) (list_any (is_stuck m lists a) (param_numbers m)) broken
          ∙ sym (or_left (breaks_a_rule m b) (list_any (is_stuck m lists b) (param_numbers m)) (sym same ∙ broken))
      | inr whole ↦
          ap (λ broken. broken || list_any (is_stuck m lists a) (param_numbers m)) same
          ∙ ap (λ stuck. breaks_a_rule m b || stuck) (any_same (is_stuck m lists a) (is_stuck m lists b) (param_numbers m)
          (stuck_agree m lists a b many some whole (sym same ∙ whole) agree))
    ]

-- so a visit has the same outcome
pub visit_agree : (m : ModelView) (lists : List (List ℕ)) (params : List ℕ) (a b : List (Option ℕ)) → length lists ≡ length m.params → HasValues m lists
    → ((p : ℕ) → is_among params p ≡ true → is_named m p ≡ true) → AgreeOnNamed m a b → visit m lists params a ≡ visit m lists params b
visit_agree m lists [] a b many some named agree = ap leaf_told (fails_agree m lists a b many some agree)
visit_agree m lists (p ∷ params) a b many some named agree =
    let values = get_or lists p [] in
    let later : (q : ℕ) → is_among params q ≡ true → is_named m q ≡ true = λ q listed. named q (among_tail p q params listed) in
    let below = try_alike (visit m lists params) a b p values
    (λ v. visit_agree m lists params (with_value a p v) (with_value b p v) many some later (agree_with m a b p v agree)) in
    ap (λ cell. node_told (is_some cell) (visit m lists params a) (is_failing m lists a) (try_values (visit m lists params) a p values))
    (agree.named p (named p (among_head p params)))
    ∙ ap (λ (same : Outcome). node_told (is_assigned b p) same (is_failing m lists a) (try_values (visit m lists params) a p values))
    (visit_agree m lists params a b many some later agree)
    ∙ ap (λ fails. node_told (is_assigned b p) (visit m lists params b) fails (try_values (visit m lists params) a p values))
    (fails_agree m lists a b many some agree)
    ∙ ap (λ (tried : Outcome). node_told (is_assigned b p) (visit m lists params b) (is_failing m lists b) tried) below

-- what is known of a question is the outcome of each that gives the same values
pub answered_tells : (m : ModelView) (lists : List (List ℕ)) (cells : List (Option ℕ)) (answered : Answered) → ListsValues m lists
    → is_failing m lists (no_values m) ≡ false → IsAnswered m lists answered → answered.known ≡ true → AgreeOnNamed m cells answered.cells
    → visit m lists (constrained_params m) cells ≡ record { found = answered.found; cost = answered.cost }
answered_tells m lists cells answered values node is known agree =
    visit_agree m lists (constrained_params m) cells answered.cells values.as_many (has_values m lists node)
    (λ p listed. among_filter_test (is_named m) p (param_numbers m) listed) agree
    ∙ is.told known

-- at a place of a table
pub answered_at : (m : ModelView) (lists : List (List ℕ)) (table : List Answered) (place : ℕ) → AreAnswered m lists table → place < length table
    → IsAnswered m lists (get_or table place none_answered)
answered_at m lists table place are low = All-get_or (IsAnswered m lists) table place none_answered low are

-- where none is known
pub unanswered_are : (m : ModelView) (lists : List (List ℕ)) (n : ℕ) → AreAnswered m lists (replicate n (unanswered (length m.params)))
unanswered_are m lists n =
    All-replicate (IsAnswered m lists) n (unanswered (length m.params))
    (record { long = length-replicate (length m.params) None; told = λ known. absurd (false≢true known) })

-- a question that was answered is one to keep
outcome_is : (outcome : Outcome) (found : Bool) (cost : ℕ) → outcome.found ≡ found → outcome.cost ≡ cost
    → outcome ≡ record { found = found; cost = cost }
outcome_is outcome found cost founds costs =
    ap (λ (b : Bool). record { found = b; cost = outcome.cost }) founds ∙ ap (λ (n : ℕ). record { found = found; cost = n }) costs

pub answer_kept : (m : ModelView) (lists : List (List ℕ)) (table : List Answered) (place : ℕ) (before path room after : List (Option ℕ))
    (budget left : ℕ) (answer : Answer) → AreAnswered m lists table → length before ≡ length m.params
    → Told (visit m lists (constrained_params m) before) path room after budget left answer
    → AreAnswered m lists (kept_at table place before answer (budget - left))
answer_kept m lists table place before path room after budget left Spent are long told = are
answer_kept m lists table place before path room after budget left No are long told =
    let outcome = visit m lists (constrained_params m) before in
    let ended = told_no outcome.found outcome.cost budget told.answer in
    All-set (IsAnswered m lists) table place (record { known = true; cells = before; found = false; cost = budget - left })
    (record {
      long = long;
      told = λ known. outcome_is outcome false (budget - left) ended.is (omega (arith, ended.enough, told.left));
    }) are
answer_kept m lists table place before path room after budget left Yes are long told =
    let outcome = visit m lists (constrained_params m) before in
    let ended = told_yes outcome.found outcome.cost budget told.answer in
    All-set (IsAnswered m lists) table place (record { known = true; cells = before; found = true; cost = budget - left })
    (record {
      long = long;
      told = λ known. outcome_is outcome true (budget - left) ended.is (omega (arith, ended.enough, told.left));
    }) are

-- partial rows that give the same to each parameter of the list
pub agree_listed : (m : ModelView) (a b : List (Option ℕ)) → length a ≡ length m.params → length b ≡ length m.params
    → ((j : ℕ) → j < length (constrained_params m)
    → get_or a (get_or (constrained_params m) j 0) None ≡ get_or b (get_or (constrained_params m) j 0) None) → AgreeOnNamed m a b
agree_listed m a b long also each = record {
  long = long;
  also = also;
  named = λ p named. elim (cases_lt p (length m.params)) [
    | inl within ↦
        let at = contains_member (constrained_params m) p (has_filter (is_named m) (param_numbers m) p (has_params m p within) named) in
        let place : get_or (constrained_params m) at.0 0 ≡ p = get_or_default (constrained_params m) at.0 0 p at.1 ∙ at.2 in
        ap (λ (q : ℕ). get_or a q None) (sym place) ∙ each at.0 at.1 ∙ ap (λ (q : ℕ). get_or b q None) place
    | inr past ↦ get_or_past a p None (omega (arith, past, long)) ∙ sym (get_or_past b p None (omega (arith, past, also)))
  ];
}
