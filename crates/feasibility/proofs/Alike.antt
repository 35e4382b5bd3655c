-- Plain search goes alike from two partial rows that differ only in the values of parameters which no constraint names.
use Rattle.std.proofs.Common.{◌≡◌, ℕ, suc, ◌+◌, ◌<◌, ◌≤◌, ◌⊎◌, Bool, true, false, not, ◌&&◌, ◌||◌, cond, List}
use Rattle.std.proofs.Common.{[], ◌∷◌, length, Option, Some, None, is_some, get_or, ◌∙◌, sym, ap, refl, arith, inl, inr}
use Rattle.std.specs.List.{list_any}
use Rattle.std.proofs.lemmas.Bool.{cases_eq, cases_lt, or_left, or_right}
use Rattle.std.proofs.lemmas.List.{get_or-set_other, get_or-set_same, get_or_past, length-set}
use Rattle.cov_model.specs.believed.Views.{RuleView}
use Rattle.cov_model.specs.believed.Sound.{ModelView}
use Rattle.cov_model.specs.believed.Rows.{is_assigned, with_value}
use Rattle.cov_model.specs.believed.Kleene.{body_truth}
use Rattle.cov_model.specs.believed.Valid.{param_numbers}
use Rattle.definitions.specs.believed.Demand.{is_among}
use Rattle.definitions.specs.believed.Search.{Outcome, body_params, breaks_a_rule, is_failing, is_no, is_stuck, try_values, visit}
use Rattle.feasibility.specs.Tree.{is_named}
use Rattle.feasibility.proofs.Local.{agree_each, local_body}

-- the same parameters have values, and each that a constraint names has the same one
pub record AreAlike (m : ModelView) (a b : List (Option ℕ)) : Type 0 where
  pub long : length a ≡ length b
  pub given : (p : ℕ) → is_assigned a p ≡ is_assigned b p
  pub named : (p : ℕ) → is_named m p ≡ true → get_or a p None ≡ get_or b p None

-- so it is with the same value more
pub same_with : (a b : List (Option ℕ)) (p q v : ℕ) → length a ≡ length b → p ≡ q
    → get_or (with_value a p v) q None ≡ get_or (with_value b p v) q None
same_with a b p q v long same =
    ap (λ k. get_or (with_value a p v) k None) (sym same) ∙ at (cases_lt p (length a)) ∙ ap (λ k. get_or (with_value b p v) k None) same
  where
    at : (p < length a) ⊎ (length a ≤ p) → get_or (with_value a p v) p None ≡ get_or (with_value b p v) p None
    at (inl within) = get_or-set_same a p (Some v) None within ∙ sym (get_or-set_same b p (Some v) None (omega (arith, within, long)))
    at (inr past) =
        get_or_past (with_value a p v) p None (omega (arith, past, length-set a p (Some v)))
        ∙ sym (get_or_past (with_value b p v) p None (omega (arith, past, long, length-set b p (Some v))))

pub alike_with : (m : ModelView) (a b : List (Option ℕ)) (p v : ℕ) → AreAlike m a b → AreAlike m (with_value a p v) (with_value b p v)
alike_with m a b p v alike = record {
  long = length-set a p (Some v) ∙ alike.long ∙ sym (length-set b p (Some v));
  given = λ q. elim (cases_eq p q) [
    | inl same ↦ ap (λ cell. is_some cell) (same_with a b p q v alike.long same)
    | inr apart ↦
        ap (λ cell. is_some cell) (get_or-set_other a p q (Some v) None (λ e. apart (sym e))) ∙ alike.given q
        ∙ sym (ap (λ cell. is_some cell) (get_or-set_other b p q (Some v) None (λ e. apart (sym e))))
  ];
  named = λ q is. elim (cases_eq p q) [
    | inl same ↦ same_with a b p q v alike.long same
    | inr apart ↦
        get_or-set_other a p q (Some v) None (λ e. apart (sym e)) ∙ alike.named q is
        ∙ sym (get_or-set_other b p q (Some v) None (λ e. apart (sym e)))
  ];
}

-- another value of a parameter that no constraint names
pub alike_other : (m : ModelView) (cells : List (Option ℕ)) (p v w : ℕ) → (is_named m p ≡ true → ⊥)
    → AreAlike m (with_value cells p v) (with_value cells p w)
alike_other m cells p v w unnamed = record {
  long = length-set cells p (Some v) ∙ sym (length-set cells p (Some w));
  given = λ q. elim (cases_eq p q) [
    | inl same ↦ ap (is_assigned (with_value cells p v)) (sym same) ∙ at (cases_lt p (length cells)) ∙ ap (is_assigned (with_value cells p w)) same
    | inr apart ↦ ap (λ cell. is_some cell) (other q apart)
  ];
  named = λ q is. other q (λ same. unnamed (ap (is_named m) same ∙ is));
}
  where
    other : (q : ℕ) → (p ≡ q → ⊥) → get_or (with_value cells p v) q None ≡ get_or (with_value cells p w) q None
    other q apart = get_or-set_other cells p q (Some v) None (λ e. apart (sym e)) ∙ sym (get_or-set_other cells p q (Some w) None (λ e. apart (sym e)))

    at : (p < length cells) ⊎ (length cells ≤ p) → is_assigned (with_value cells p v) p ≡ is_assigned (with_value cells p w) p
    at (inl within) =
        ap (λ cell. is_some cell) (get_or-set_same cells p (Some v) None within)
        ∙ sym (ap (λ cell. is_some cell) (get_or-set_same cells p (Some w) None within))
    at (inr past) =
        ap (λ cell. is_some cell) (get_or_past (with_value cells p v) p None (omega (arith, past, length-set cells p (Some v)))
        ∙ sym (get_or_past (with_value cells p w) p None (omega (arith, past, length-set cells p (Some w)))))

-- the same constraints are No
pub breaks_same : (m : ModelView) (rules : List RuleView) (a b : List (Option ℕ))
    → ((p : ℕ) → list_any (λ rule. is_among (body_params rule.body) p) rules ≡ true → get_or a p None ≡ get_or b p None)
    → list_any (λ rule. is_no (body_truth m rule.body a)) rules ≡ list_any (λ rule. is_no (body_truth m rule.body b)) rules
breaks_same m [] a b same = refl
breaks_same m (rule ∷ rules) a b same =
    let names : ℕ → Bool = is_among (body_params rule.body) in
    let others : ℕ → Bool = λ q. list_any (λ other. is_among (body_params other.body) q) rules in
    let here = local_body m rule.body a b (agree_each (body_params rule.body) a b (λ q listed. same q (or_left (names q) (others q) listed))) in
    ap (λ known. is_no known || list_any (λ other. is_no (body_truth m other.body a)) rules) here.0
    ∙ ap (λ later. is_no (body_truth m rule.body b) || later) (breaks_same m rules a b (λ q listed. same q (or_right (names q) (others q) listed)))

breaks_alike : (m : ModelView) (a b : List (Option ℕ)) → AreAlike m a b → breaks_a_rule m a ≡ breaks_a_rule m b
breaks_alike m a b alike = breaks_same m m.rules a b alike.named

-- the same nodes fail
pub any_same : (f g : ℕ → Bool) (xs : List ℕ) → ((x : ℕ) → f x ≡ g x) → list_any f xs ≡ list_any g xs
any_same f g [] same = refl
any_same f g (x ∷ xs) same = ap (λ found. found || list_any f xs) (same x) ∙ ap (λ later. g x || later) (any_same f g xs same)

fails_alike : (m : ModelView) (lists : List (List ℕ)) (a b : List (Option ℕ)) → AreAlike m a b → is_failing m lists a ≡ is_failing m lists b
fails_alike m lists a b alike =
    ap (λ broken. broken || list_any (is_stuck m lists a) (param_numbers m)) (breaks_alike m a b alike)
    ∙ ap (λ stuck. breaks_a_rule m b || stuck) (any_same (is_stuck m lists a) (is_stuck m lists b) (param_numbers m) each)
  where
    each : (p : ℕ) → is_stuck m lists a p ≡ is_stuck m lists b p
    each p =
        ap (λ given. not given && not (list_any (λ v. not (breaks_a_rule m (with_value a p v))) (get_or lists p []))) (alike.given p)
        ∙ ap (λ live. not (is_assigned b p) && not live) (any_same (λ v. not (breaks_a_rule m (with_value a p v)))
        (λ v. not (breaks_a_rule m (with_value b p v))) (get_or lists p [])
        (λ v. ap not (breaks_alike m (with_value a p v) (with_value b p v) (alike_with m a b p v alike))))

pub try_alike : (seen : List (Option ℕ) → Outcome) (a b : List (Option ℕ)) (p : ℕ) (values : List ℕ)
    → ((v : ℕ) → seen (with_value a p v) ≡ seen (with_value b p v)) → try_values seen a p values ≡ try_values seen b p values
try_alike seen a b p [] same = refl
try_alike seen a b p (v ∷ values) same =
    ap (λ (later : Outcome). after (seen (with_value a p v)) later) (try_alike seen a b p values same)
    ∙ ap (λ (first : Outcome). after first (try_values seen b p values)) (same v)
  where
    after : Outcome → Outcome → Outcome
    after first later = cond first.found first (record { found = later.found; cost = first.cost + later.cost })

-- what a visit of a node tells
abbrev pub leaf_told : Bool → Outcome
leaf_told fails = record { found = not fails; cost = 1 }

abbrev pub node_told : Bool → Outcome → Bool → Outcome → Outcome
node_told given same fails tried =
    cond given same (cond fails (record { found = false; cost = 1 }) (record { found = tried.found; cost = suc tried.cost }))

-- so a visit has the same outcome
pub visit_alike : (m : ModelView) (lists : List (List ℕ)) (params : List ℕ) (a b : List (Option ℕ)) → AreAlike m a b
    → visit m lists params a ≡ visit m lists params b
visit_alike m lists [] a b alike = ap leaf_told (fails_alike m lists a b alike)
visit_alike m lists (p ∷ params) a b alike =
    let values = get_or lists p [] in
    let below = try_alike (visit m lists params) a b p values
    (λ v. visit_alike m lists params (with_value a p v) (with_value b p v) (alike_with m a b p v alike)) in
    ap (λ given. node_told given (visit m lists params a) (is_failing m lists a) (try_values (visit m lists params) a p values)) (alike.given p)
    ∙ ap (λ (same : Outcome). node_told (is_assigned b p) same (is_failing m lists a) (try_values (visit m lists params) a p values))
    (visit_alike m lists params a b alike)
    ∙ ap (λ fails. node_told (is_assigned b p) (visit m lists params b) fails (try_values (visit m lists params) a p values)) (fails_alike m lists a b alike)
    ∙ ap (λ (tried : Outcome). node_told (is_assigned b p) (visit m lists params b) (is_failing m lists b) tried) below
