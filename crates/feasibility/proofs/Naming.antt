-- Which constraints name a parameter.
use Rattle.std.proofs.Common.{◌≡◌, ℕ, ◌+◌, ◌-◌, ◌<◌, ◌≤◌, Bool, true, false, not, ◌||◌, ◌==◌, cond, if◌then◌else◌, ◌++◌, List, [], ◌∷◌, map, take, length}
use Rattle.std.proofs.Common.{append-nil, Option, is_some, unwrap_or, Some, None, get_or, All, ◌∙◌, sym, ap, subst, refl, arith, zero-add}
use Rattle.std.specs.List.{filter, list_any, range_with_len}
use Rattle.std.proofs.lemmas.Bool.{false_from_ne_true}
use Rattle.std.proofs.lemmas.List.{get_or-map, get_or_default, map-append, take_more}
use Rattle.std.proofs.lemmas.Grind.{flat_map-append}
use Rattle.std.proofs.lemmas.List.Elements.{Contains-get_or, All-append, All-filter, All-map, All-nil, filter-append}
use Rattle.std.proofs.lemmas.List.Folds.{list_any-append}
use Rattle.std.proofs.lemmas.List.FromFn.{length-map-range_with_len, length-range_with_len, get_or-map-range_with_len}
use Rattle.value_text.proofs.ListLemmas.{length-filter-le, range_with_len_more}
use Rattle.cov_model.specs.declared.constraint.Rule.{Rule}
use Rattle.cov_model.specs.believed.Views.{BodyView, RuleView}
use Rattle.cov_model.specs.Views.{body_view, each_is, either_is, pred_view, preds_in, rule_view}
use Rattle.cov_model.specs.believed.Sound.{ModelView, IsSound, param_at}
use Rattle.cov_model.specs.Sound.{no_rule, rule_at}
use Rattle.cov_model.specs.believed.Kleene.{body_truth}
use Rattle.cov_model.specs.Fits.{FitsModel}
use Rattle.cov_model.specs.believed.Rows.{is_assigned, value_in, with_value}
use Rattle.compiled_rules.specs.Codes.{is_yes}
use Rattle.cov_model.specs.believed.Valid.{param_numbers}
use Rattle.cov_model.specs.declared.constraint.Pred as preds
use Rattle.cov_model.specs.declared.constraint.Pred.{Pred}
use Rattle.definitions.specs.believed.Demand.{is_among}
use Rattle.definitions.specs.believed.Search.{pred_params, parts_params, body_params, constrained_params}
use Rattle.definitions.proofs.Members.{Has, all_members as members_are, any_member, contains_member, has_contained, has_filter, of_filter, of_range}
use Rattle.definitions.proofs.Nothing.{nothing_kept}
use Rattle.definitions.proofs.ProofWords.{rule_numbers}
use Rattle.definitions.proofs.SliceLemmas.{has_params, of_params}
use Rattle.feasibility.specs.Live.{AreRules, undecided_of}
use Rattle.feasibility.specs.declared.constrained.Constrained.{Constrained}
use Rattle.feasibility.specs.Tree.{all_members, is_named, members, naming, no_values, undecided, undecided_by, undecided_on}

parts_name : (parts : List Pred) (p : ℕ) → is_among (parts_params (preds_in parts)) p ≡ list_any (λ part. is_among (pred_params (pred_view part)) p) parts
parts_name [] p = refl
parts_name (part ∷ parts) p =
    list_any-append (λ k. k == p) (pred_params (pred_view part)) (parts_params (preds_in parts))
    ∙ ap (λ (b : Bool). is_among (pred_params (pred_view part)) p || b) (parts_name parts p)

pub is_among-All : (parts : List Pred) (p : ℕ) → is_among (pred_params (pred_view (preds.All parts))) p ≡ list_any
    (λ part. is_among (pred_params (pred_view part)) p) parts
is_among-All parts p = ap (λ view. is_among (pred_params view) p) (each_is parts) ∙ parts_name parts p

pub is_among-Any : (parts : List Pred) (p : ℕ) → is_among (pred_params (pred_view (preds.Any parts))) p ≡ list_any
    (λ part. is_among (pred_params (pred_view part)) p) parts
is_among-Any parts p = ap (λ view. is_among (pred_params view) p) (either_is parts) ∙ parts_name parts p

-- the numbers of the constraints of the code that name a parameter are the model's
naming_seen : (rules : List Rule) (p : ℕ)
    → map (λ rule. rule.number) (filter (λ rule. is_among (body_params rule.body) p) (map rule_view rules))
    ≡ map (λ rule. rule.number) (filter (λ rule. is_among (body_params (body_view rule.body)) p) rules)
naming_seen [] p = refl
naming_seen (rule ∷ rules) p = by_case (is_among (body_params (body_view rule.body)) p) (naming_seen rules p)
  where
    by_case : (b : Bool)
        → map (λ rule. rule.number) (filter (λ rule. is_among (body_params rule.body) p) (map rule_view rules))
        ≡ map (λ rule. rule.number) (filter (λ rule. is_among (body_params (body_view rule.body)) p) rules)
        → map (λ rule. rule.number) (cond b (rule_view rule ∷ filter (λ rule. is_among (body_params rule.body) p) (map rule_view rules))
        (filter (λ rule. is_among (body_params rule.body) p) (map rule_view rules)))
        ≡ map (λ rule. rule.number) (cond b (rule ∷ filter (λ rule. is_among (body_params (body_view rule.body)) p) rules)
        (filter (λ rule. is_among (body_params (body_view rule.body)) p) rules))
    by_case true rest = ap (λ numbers. rule.number ∷ numbers) rest
    by_case false rest = rest

pub naming_is : (m : ModelView) (rules list : List Rule) (p : ℕ) → map rule_view rules ≡ m.rules → list ≡ rules
    → map (λ rule. rule.number) (filter (λ rule. is_among (body_params (body_view rule.body)) p) list) ≡ naming m p
naming_is m rules list p same whole =
    ap (λ (l : List Rule). map (λ rule. rule.number) (filter (λ rule. is_among (body_params (body_view rule.body)) p) l)) whole
    ∙ sym (naming_seen rules p) ∙ ap (λ (views : List RuleView). map (λ rule. rule.number) (filter (λ rule. is_among (body_params rule.body) p) views)) same

-- the numbers are those of constraints
pub naming_exist : (m : ModelView) (p : ℕ) → IsSound m → AreRules m (naming m p)
naming_exist m p sound =
    All-map (λ k. (0 < k) × (k ≤ length m.rules)) (λ rule. rule.number) (filter (λ rule. is_among (body_params rule.body) p) m.rules)
    (All-filter (λ rule. is_among (body_params rule.body) p) (λ rule. (0 < rule.number) × (rule.number ≤ length m.rules)) m.rules (rule_numbers m sound))

pub undecided_exist : (m : ModelView) (p v : ℕ) → IsSound m → AreRules m (undecided m p v)
undecided_exist m p v sound =
    All-filter (λ k. not (is_yes (body_truth m (rule_at m k).body (with_value (no_values m) p v)))) (λ k. (0 < k) × (k ≤ length m.rules)) (naming m p)
    (naming_exist m p sound)

pub undecided_of_exist : (m : ModelView) (cells : List (Option ℕ)) (params : List ℕ) → IsSound m → AreRules m (undecided_of m cells params)
undecided_of_exist m cells [] sound = All-nil (λ k. (0 < k) × (k ≤ length m.rules))
undecided_of_exist m cells (p ∷ params) sound =
    All-append (λ k. (0 < k) × (k ≤ length m.rules)) (if is_assigned cells p then undecided m p (value_in cells p) else []) (undecided_of m cells params)
    (of_one (is_assigned cells p)) (undecided_of_exist m cells params sound)
  where
    of_one : (b : Bool) → AreRules m (if b then undecided m p (value_in cells p) else [])
    of_one true = undecided_exist m p (value_in cells p) sound
    of_one false = All-nil (λ k. (0 < k) × (k ≤ length m.rules))

-- a parameter is constrained exactly if the list of the constraints that name it isn't empty
pub named_some : (m : ModelView) (p : ℕ) → (0 < length (naming m p) → is_named m p ≡ true) × (length (naming m p) ≡ 0 → is_named m p ≡ false)
named_some m p = of_rules m.rules
  where
    of_rules : (rules : List RuleView) → (0 < length (map (λ rule. rule.number) (filter (λ rule. is_among (body_params rule.body) p) rules))
        → list_any (λ rule. is_among (body_params rule.body) p) rules ≡ true)
        × (length (map (λ rule. rule.number) (filter (λ rule. is_among (body_params rule.body) p) rules)) ≡ 0
        → list_any (λ rule. is_among (body_params rule.body) p) rules ≡ false)
    of_rules [] = (λ h. absurd (omega arith), λ h. refl)
    of_rules (rule ∷ rules) = by_case (is_among (body_params rule.body) p) (of_rules rules)
      where
        by_case : (b : Bool)
            → (0 < length (map (λ rule. rule.number) (filter (λ rule. is_among (body_params rule.body) p) rules))
            → list_any (λ rule. is_among (body_params rule.body) p) rules ≡ true)
            × (length (map (λ rule. rule.number) (filter (λ rule. is_among (body_params rule.body) p) rules)) ≡ 0
            → list_any (λ rule. is_among (body_params rule.body) p) rules ≡ false)
            → (0 < length (map (λ rule. rule.number) (cond b (rule ∷ filter (λ rule. is_among (body_params rule.body) p) rules)
            (filter (λ rule. is_among (body_params rule.body) p) rules)))
            → (b || list_any (λ rule. is_among (body_params rule.body) p) rules) ≡ true)
            × (length (map (λ rule. rule.number) (cond b (rule ∷ filter (λ rule. is_among (body_params rule.body) p) rules)
            (filter (λ rule. is_among (body_params rule.body) p) rules))) ≡ 0
            → (b || list_any (λ rule. is_among (body_params rule.body) p) rules) ≡ false)
        by_case true rest = (λ h. refl, λ h. absurd (omega arith))
        by_case false rest = rest

-- a parameter that isn't among the constrained ones leaves nothing undecided
pub undecided_none : (m : ModelView) (p v : ℕ) → p < length m.params
    → ((k : ℕ) → k < length (constrained_params m) → get_or (constrained_params m) k 0 ≡ p → ⊥) → [] ≡ undecided m p v
undecided_none m p v within away =
    sym (ap (λ (rules : List RuleView). undecided_on m (map (λ rule. rule.number) rules) (with_value (no_values m) p v))
    (nothing_kept (λ rule. is_among (body_params rule.body) p) m.rules
    (members_are (λ rule. is_among (body_params rule.body) p ≡ false) m.rules (λ rule has.
    false_from_ne_true (is_among (body_params rule.body) p) (λ names. unnamed rule has names)))))
  where
    unnamed : (rule : RuleView) → Has m.rules rule → is_among (body_params rule.body) p ≡ true → ⊥
    unnamed rule has names =
        let listed = contains_member (constrained_params m) p (has_filter (is_named m) (param_numbers m) p (has_params m p within)
        (any_member (λ rule. is_among (body_params rule.body) p) m.rules rule has names)) in
        away listed.0 listed.1 (get_or_default (constrained_params m) listed.0 0 p listed.1 ∙ listed.2)

-- the parameters that a constraint names exist, and those that constraints name do
pub member_exists : (n : ℕ) (body : BodyView) (list : List ℕ) (i : ℕ) → list ≡ members n body → i < length list → get_or list i 0 < n
member_exists n body list i is within =
    subst (All (λ q. q < n)) (sym is)
    (All-filter (is_among (body_params body)) (λ q. q < n) (range_with_len 0 n)
    (members_are (λ q. q < n) (range_with_len 0 n) (λ q has. omega (arith, (of_range 0 n q has).1)))) i 0 within

pub member_named : (n : ℕ) (body : BodyView) (list : List ℕ) (i : ℕ) → list ≡ members n body → i < length list
    → is_among (body_params body) (get_or list i 0) ≡ true
member_named n body list i is within =
    (of_filter (is_among (body_params body)) (range_with_len 0 n) (get_or list i 0)
    (subst (λ (numbers : List ℕ). Has numbers (get_or list i 0)) is (has_contained list (get_or list i 0) (Contains-get_or list i 0 within)))).1

pub constrained_exists : (m : ModelView) (i : ℕ) → i < length (constrained_params m) → get_or (constrained_params m) i 0 < length m.params
constrained_exists m i within =
    All-filter (is_named m) (λ q. q < length m.params) (param_numbers m)
    (members_are (λ q. q < length m.params) (param_numbers m) (λ q has. of_params m q has)) i 0 within

-- there are few constrained parameters
pub constrained_few : (m : ModelView) → IsSound m → length (constrained_params m) ≤ 256
constrained_few m sound = omega (arith, length-filter-le (is_named m) (param_numbers m), length-range_with_len 0 (length m.params), sound.few)

-- what is kept of a constrained parameter
pub record HasUndecided (m : ModelView) (p v : ℕ) (entry : Constrained) : Type 0 where
  pub param : entry.param ≡ p
  pub within : v < length entry.undecided
  pub list : get_or entry.undecided v [] ≡ undecided m p v
  pub exist : AreRules m (get_or entry.undecided v [])

pub has_undecided : (m : ModelView) (p v : ℕ) (entry : Constrained) → IsSound m → entry ≡ undecided_by m p → v < length (param_at m.params p).values
    → HasUndecided m p v entry
has_undecided m p v entry sound is exists =
    let count = length (param_at m.params p).values in
    let list : get_or entry.undecided v [] ≡ undecided m p v =
    ap (λ (e : Constrained). get_or e.undecided v []) is ∙ get_or-map-range_with_len (undecided m p) 0 count v v [] exists (zero-add v) in
    record {
      param = ap (λ (e : Constrained). e.param) is;
      within = omega (arith, exists, ap (λ (e : Constrained). length e.undecided) is, length-map-range_with_len (undecided m p) 0 count);
      list = list;
      exist = subst (AreRules m) (sym list) (undecided_exist m p v sound);
    }

-- the first numbers are those of constraints
pub first_rules : (m : ModelView) (i : ℕ) → i ≤ length m.rules → AreRules m (range_with_len 1 i)
first_rules m i most =
    members_are (λ k. (0 < k) × (k ≤ length m.rules)) (range_with_len 1 i)
    (λ k has. let range = of_range 1 i k has in (omega (arith, range.0), omega (arith, range.1, most)))

-- one number more, which passes or not
pub filter_range_more : (f : ℕ → Bool) (q : ℕ) (b : Bool) → f q ≡ b
    → filter f (range_with_len 0 (q + 1)) ≡ filter f (range_with_len 0 q) ++ cond b (q ∷ []) []
filter_range_more f q b test =
    ap (filter f) (range_with_len_more 0 q) ∙ filter-append f (range_with_len 0 q) ((0 + q) ∷ [])
    ∙ ap (λ (k : ℕ). filter f (range_with_len 0 q) ++ cond (f k) (k ∷ []) []) (zero-add q)
    ∙ ap (λ (c : Bool). filter f (range_with_len 0 q) ++ cond c (q ∷ []) []) test

-- the parameters that each constraint of the code names are the model's
pub members_seen : (m : ModelView) (rules : List Rule) → map rule_view rules ≡ m.rules
    → map (λ rule. members (length m.params) (body_view rule.body)) rules ≡ all_members m
members_seen m rules same = seen rules ∙ ap (λ (views : List RuleView). map (λ rule. members (length m.params) rule.body) views) same
  where
    seen : (rules : List Rule) → map (λ rule. members (length m.params) (body_view rule.body)) rules ≡ map (λ rule. members (length m.params) rule.body)
        (map rule_view rules)
    seen [] = refl
    seen (rule ∷ rules) = ap (λ lists. members (length m.params) (body_view rule.body) ∷ lists) (seen rules)

-- of one parameter more
pub undecided_of_more : (m : ModelView) (cells : List (Option ℕ)) (params : List ℕ) (i : ℕ) → i < length params
    → undecided_of m cells (take (i + 1) params) ≡ undecided_of m cells
    (take i params) ++ (if is_assigned cells (get_or params i 0) then undecided m (get_or params i 0) (value_in cells (get_or params i 0)) else [])
undecided_of_more m cells params i within =
    let f = λ (p : ℕ). if is_assigned cells p then undecided m p (value_in cells p) else [] in
    ap (undecided_of m cells) (take_more params i 0 within) ∙ flat_map-append f (take i params) (get_or params i 0 ∷ [])
    ∙ ap (λ (numbers : List ℕ). undecided_of m cells (take i params) ++ numbers) (append-nil (f (get_or params i 0)))

-- what is kept of a constrained parameter with a value
pub record HasGiven (m : ModelView) (cells : List (Option ℕ)) (p v : ℕ) (entry : Constrained) : Type 0 where
  pub within : v < length entry.undecided
  pub list : get_or entry.undecided v [] ≡ undecided m p v
  pub exist : AreRules m (get_or entry.undecided v [])
  pub given : (if is_assigned cells p then undecided m p (value_in cells p) else []) ≡ undecided m p v

pub has_given : (m : ModelView) (cells : List (Option ℕ)) (p v : ℕ) (entry : Constrained) → IsSound m → FitsModel m cells → entry ≡ undecided_by m p
    → get_or cells entry.param None ≡ Some v → HasGiven m cells p v entry
has_given m cells p v entry sound fits is read =
    let cell : get_or cells p None ≡ Some v = ap (λ (e : Constrained). get_or cells e.param None) (sym is) ∙ read in
    let exists = fits.exist p (ap is_some cell) in
    let has = has_undecided m p v entry sound is (subst (λ (w : ℕ). w < length (param_at m.params p).values) (ap (λ (c : Option ℕ). unwrap_or c 0) cell)
    exists) in
    record {
      within = has.within;
      list = has.list;
      exist = has.exist;
      given = ap (λ (c : Option ℕ). if is_some c then undecided m p (unwrap_or c 0) else []) cell;
    }

-- the parameters that the constraint at a place names
pub members_at : (m : ModelView) (lists : List (List ℕ)) (i : ℕ) → lists ≡ all_members m → i < length m.rules
    → get_or lists i [] ≡ members (length m.params) (rule_at m (i + 1)).body
members_at m lists i are within =
    let place : i ≡ i + 1 - 1 = omega arith in
    ap (λ (found : List (List ℕ)). get_or found i []) are
    ∙ get_or-map (λ (rule : RuleView). members (length m.params) rule.body) m.rules i no_rule [] within
    ∙ ap (λ (k : ℕ). members (length m.params) (get_or m.rules k no_rule).body) place

-- one parameter more, of those that pass
pub map_filter_more : {X : Type 0} (g : ℕ → X) (f : ℕ → Bool) (q : ℕ)
    → map g (filter f (range_with_len 0 (q + 1))) ≡ map g (filter f (range_with_len 0 q)) ++ map g (filter f (q ∷ []))
map_filter_more g f q =
    ap (map g) (ap (filter f) (range_with_len_more 0 q) ∙ filter-append f (range_with_len 0 q) ((0 + q) ∷ []))
    ∙ map-append g (filter f (range_with_len 0 q)) (filter f ((0 + q) ∷ []))
    ∙ ap (λ (k : ℕ). map g (filter f (range_with_len 0 q)) ++ map g (filter f (k ∷ []))) (zero-add q)
