-- The leaves of a tree, as they are tested: one constraint, the negative values that branches gave, and
-- one earlier tuple.
use Rattle.std.proofs.Common.{◌≡◌, ◌≢◌, ℕ, zero, suc, ◌+◌, ◌-◌, ◌<◌, ◌≤◌, Bool, true, false, ◌&&◌, ◌||◌, not, List, [], ◌∷◌, length, get_or, Option}
use Rattle.std.proofs.Common.{Some, None, is_some, unwrap_or, option_map, inl, inr, ◌∙◌, sym, ap, refl, arith, eq-eqb, le-leb}
use Rattle.std.specs.Prelude.{◌==◌, nat_le}
use Rattle.std.specs.List.{list_all, slice_get}
use Rattle.std.proofs.lemmas.Bool.{false≢true, false_from_ne_true, cases_Bool, cases_eq, and_parts, and_from, or_cases, or_left, or_right, not-true, not_from_false, eqb-true, leb-true}
use Rattle.std.proofs.lemmas.List.{get_or_default, get_or-set_other, get_or-set_same}
use Rattle.std.proofs.lemmas.Option.{slice_get-map, slice_get-get_or, slice_get_past}
use Rattle.cov_model.specs.believed.Meaning.{given_value, value_at}
use Rattle.cov_model.specs.believed.Kleene.{body_truth}
use Rattle.cov_model.specs.believed.Rows.{is_assigned, with_value}
use Rattle.cov_model.specs.believed.Sound.{ModelView, IsSound}
use Rattle.cov_model.specs.Sound.{no_rule, rule_at}
use Rattle.cov_model.specs.Tuples.{IsRising}
use Rattle.cov_model.specs.believed.Tuples.{cells_of}
use Rattle.cov_model.specs.believed.Valid.{negatives, param_numbers}
use Rattle.cov_model.specs.believed.Views.{RuleView}
use Rattle.definitions.specs.believed.Refutation.{earlier_tuple, is_negative_leaf, is_rule_leaf}
use Rattle.definitions.specs.believed.Search.{is_no}
use Rattle.definitions.proofs.Members.{Has, contains_member, has_contained, of_any, any_member, has_filter, of_filter, has_range, of_range, all_pass, passes_all, member_of_all, same_answer}
use Rattle.refutation.specs.declared.omissions.Omission.{Omission}
use Rattle.refutation.specs.Checking.{AreOfModel, has_param, has_rule, tuples_of}
use Rattle.refutation.proofs.PairLemmas.{assigned_by, given_by, below_params}

-- ---- constraints

-- a constraint and its number
rule_of : (m : ModelView) (rule : RuleView) → IsSound m → Has m.rules rule → (0 < rule.number) × (rule.number ≤ length m.rules) × (rule_at m rule.number ≡ rule)
rule_of m rule sound has =
    let at = contains_member m.rules rule has in
    let number = sound.numbered at.0 rule at.1 in
    let same : rule.number ≡ at.0 + 1 = ap (λ (r : RuleView). r.number) (sym at.2) ∙ number in
    let place : rule.number - 1 ≡ at.0 = omega (arith, same) in (
      omega (arith, same),
      omega (arith, same, at.1),
      ap (λ (i : ℕ). get_or m.rules i no_rule) place ∙ get_or_default m.rules at.0 no_rule rule at.1 ∙ at.2,
    )

of_number : (m : ModelView) (k : ℕ) → IsSound m → 0 < k → k ≤ length m.rules → Has m.rules (rule_at m k) × ((rule_at m k).number ≡ k)
of_number m k sound least most =
    let within : k - 1 < length m.rules = omega (arith, least, most) in (
      has_contained m.rules (rule_at m k) (k - 1, within, get_or_default m.rules (k - 1) (rule_at m k) no_rule within),
      sound.numbered (k - 1) no_rule within ∙ omega (arith, least),
    )

-- the numbers are those from 1 on
has_rule_within : (m : ModelView) (k : ℕ) → IsSound m → 0 < k → k ≤ length m.rules → has_rule m k ≡ true
has_rule_within m k sound least most =
    let rule = of_number m k sound least most in
    any_member (λ rule. rule.number == k) m.rules (rule_at m k) rule.0 (eq-eqb (rule_at m k).number k rule.1)

pub has_rule_range : (m : ModelView) (k : ℕ) → IsSound m → has_rule m k ≡ true → (0 < k) × (k ≤ length m.rules)
has_rule_range m k sound some =
    let found = of_any (λ rule. rule.number == k) m.rules some in
    let same : found.0.number ≡ k = eqb-true found.0.number k found.2 in
    let known = rule_of m found.0 sound found.1 in
    (omega (arith, same, known.0), omega (arith, same, known.1))

has_rule_outside : (m : ModelView) (k : ℕ) → IsSound m → (0 < k → k ≤ length m.rules → ⊥) → has_rule m k ≡ false
has_rule_outside m k sound outside =
    false_from_ne_true (has_rule m k) (λ some. let range = has_rule_range m k sound some in outside range.0 range.1)

pub has_rule_zero : (m : ModelView) (k : ℕ) → IsSound m → k ≡ 0 → not (k == 0) ≡ has_rule m k
has_rule_zero m k sound is = ap not (eq-eqb k 0 is) ∙ sym (has_rule_outside m k sound (λ least most. omega (arith, is, least)))

pub has_rule_tested : (m : ModelView) (k count : ℕ) → IsSound m → count ≡ length m.rules → (k ≡ 0 → ⊥) → nat_le k count ≡ has_rule m k
has_rule_tested m k count sound is some =
    elim (cases_Bool (nat_le k count)) [
      | inl below ↦ below ∙ sym (has_rule_within m k sound (omega (arith, some)) (omega (arith, is, leb-true k count below)))
      | inr above ↦ above ∙ sym (has_rule_outside m k sound (λ least most. false≢true (sym above ∙ le-leb k count (omega (arith, is, most)))))
    ]

-- a leaf by the constraint of a number: there is one, and it is No
pub rule_leaf-none : (m : ModelView) (path : List (Option ℕ)) (k : ℕ) → has_rule m k ≡ false → is_rule_leaf m path k ≡ false
rule_leaf-none m path k none =
    false_from_ne_true (is_rule_leaf m path k) (λ some.
    let found = of_any (λ rule. (rule.number == k) && is_no (body_truth m rule.body path)) m.rules some in
    let parts = and_parts (found.0.number == k) (is_no (body_truth m found.0.body path)) found.2 in
    false≢true (sym none ∙ any_member (λ rule. rule.number == k) m.rules found.0 found.1 parts.0))

pub rule_leaf-some : (m : ModelView) (path : List (Option ℕ)) (k : ℕ) → IsSound m → has_rule m k ≡ true
    → is_rule_leaf m path k ≡ is_no (body_truth m (rule_at m k).body path)
rule_leaf-some m path k sound some = same_answer (is_rule_leaf m path k) (is_no (body_truth m (rule_at m k).body path)) to_one from_one
  where
    to_one : is_rule_leaf m path k ≡ true → is_no (body_truth m (rule_at m k).body path) ≡ true
    to_one leaf =
        let found = of_any (λ rule. (rule.number == k) && is_no (body_truth m rule.body path)) m.rules leaf in
        let parts = and_parts (found.0.number == k) (is_no (body_truth m found.0.body path)) found.2 in
        let same : found.0.number ≡ k = eqb-true found.0.number k parts.0 in
        let rule : rule_at m k ≡ found.0 = ap (rule_at m) (sym same) ∙ (rule_of m found.0 sound found.1).2 in
        ap (λ (r : RuleView). is_no (body_truth m r.body path)) rule ∙ parts.1

    from_one : is_no (body_truth m (rule_at m k).body path) ≡ true → is_rule_leaf m path k ≡ true
    from_one broken =
        let range = has_rule_range m k sound some in
        let rule = of_number m k sound range.0 range.1 in
        any_member (λ rule. (rule.number == k) && is_no (body_truth m rule.body path)) m.rules (rule_at m k) rule.0
        (and_from ((rule_at m k).number == k) (is_no (body_truth m (rule_at m k).body path)) (eq-eqb (rule_at m k).number k rule.1) broken)

-- ---- negative values

-- the parameter has a negative value in the cells
abbrev is_negative_at : ModelView → List (Option ℕ) → ℕ → Bool
is_negative_at m cells p = is_assigned cells p && (given_value m cells p).negative

has_negative : (m : ModelView) (cells : List (Option ℕ)) (p : ℕ) → p < length m.params → is_negative_at m cells p ≡ true → Has (negatives m cells) p
has_negative m cells p within is = has_filter (is_negative_at m cells) (param_numbers m) p (has_range 0 (length m.params) p (omega arith) (omega arith)) is

-- at the start of a path there is none outside the tuple
pub negative_leaf-start : (m : ModelView) (tuple : List (Option ℕ)) → is_negative_leaf m tuple tuple ≡ false
negative_leaf-start m tuple =
    false_from_ne_true (is_negative_leaf m tuple tuple) (λ some.
    let found = of_any (λ p. not (is_assigned tuple p)) (negatives m tuple) some in
    let kept = of_filter (is_negative_at m tuple) (param_numbers m) found.0 found.1 in
    let assigned = (and_parts (is_assigned tuple found.0) _ kept.1).0 in
    false≢true (sym (not-true (is_assigned tuple found.0) found.2) ∙ assigned))

-- a branch on a parameter outside the tuple adds its value, if that is negative
pub negative_leaf-more : (m : ModelView) (tuple path : List (Option ℕ)) (p v : ℕ) → p < length m.params → length path ≡ length m.params
    → is_assigned path p ≡ false → is_assigned tuple p ≡ false
    → is_negative_leaf m tuple (with_value path p v) ≡ (is_negative_leaf m tuple path || (value_at m p v).negative)
negative_leaf-more m tuple path p v within long free outside =
    same_answer (is_negative_leaf m tuple (with_value path p v)) (is_negative_leaf m tuple path || (value_at m p v).negative) to_either from_either
  where
    to_either : is_negative_leaf m tuple (with_value path p v) ≡ true → (is_negative_leaf m tuple path || (value_at m p v).negative) ≡ true
    to_either some =
        let found = of_any (λ q. not (is_assigned tuple q)) (negatives m (with_value path p v)) some in
        let kept = of_filter (is_negative_at m (with_value path p v)) (param_numbers m) found.0 found.1 in
        elim (cases_eq found.0 p) [
          | inl same ↦
              let here : get_or (with_value path p v) found.0 None ≡ Some v = ap (λ (k : ℕ). get_or (with_value path p v) k None) same
              ∙ get_or-set_same path p (Some v) None (omega (arith, long, within)) in
              let negative : (value_at m found.0 v).negative ≡ true =
              sym (ap (λ (cell : Option ℕ). (value_at m found.0 (unwrap_or cell 0)).negative) here) ∙ (and_parts (is_assigned (with_value path p v) found.0) _ kept.1).1 in
              or_right (is_negative_leaf m tuple path) (value_at m p v).negative (ap (λ (k : ℕ). (value_at m k v).negative) (sym same) ∙ negative)
          | inr apart ↦
              let there : get_or (with_value path p v) found.0 None ≡ get_or path found.0 None = get_or-set_other path p found.0 (Some v) None apart in
              let before : is_negative_at m path found.0 ≡ true =
              sym (ap (λ (cell : Option ℕ). is_some cell && (value_at m found.0 (unwrap_or cell 0)).negative) there) ∙ kept.1 in
              let range = of_range 0 (length m.params) found.0 kept.0 in
              or_left (is_negative_leaf m tuple path) (value_at m p v).negative
              (any_member (λ q. not (is_assigned tuple q)) (negatives m path) found.0 (has_negative m path found.0 (omega (arith, range.1)) before) found.2)
        ]

    from_either : (is_negative_leaf m tuple path || (value_at m p v).negative) ≡ true → is_negative_leaf m tuple (with_value path p v) ≡ true
    from_either some =
        elim (or_cases (is_negative_leaf m tuple path) (value_at m p v).negative some) [
          | inl before ↦
              let found = of_any (λ q. not (is_assigned tuple q)) (negatives m path) before in
              let kept = of_filter (is_negative_at m path) (param_numbers m) found.0 found.1 in
              let range = of_range 0 (length m.params) found.0 kept.0 in
              let apart : found.0 ≢ p = λ same. false≢true (sym free ∙ ap (is_assigned path) (sym same) ∙ (and_parts (is_assigned path found.0) _ kept.1).0) in
              let there : get_or (with_value path p v) found.0 None ≡ get_or path found.0 None = get_or-set_other path p found.0 (Some v) None apart in
              let after : is_negative_at m (with_value path p v) found.0 ≡ true =
              ap (λ (cell : Option ℕ). is_some cell && (value_at m found.0 (unwrap_or cell 0)).negative) there ∙ kept.1 in
              any_member (λ q. not (is_assigned tuple q)) (negatives m (with_value path p v)) found.0
              (has_negative m (with_value path p v) found.0 (omega (arith, range.1)) after) found.2
          | inr negative ↦
              let here : get_or (with_value path p v) p None ≡ Some v = get_or-set_same path p (Some v) None (omega (arith, long, within)) in
              let after : is_negative_at m (with_value path p v) p ≡ true =
              ap (λ (cell : Option ℕ). is_some cell && (value_at m p (unwrap_or cell 0)).negative) here ∙ negative in
              any_member (λ q. not (is_assigned tuple q)) (negatives m (with_value path p v)) p (has_negative m (with_value path p v) p within after)
              (not_from_false (is_assigned tuple p) outside)
        ]

-- each parameter with a negative value in a tuple passes exactly if it passes wherever a pair is negative
pub negatives_pass : (m : ModelView) (test : ℕ → Bool) (pairs : List (ℕ × ℕ)) → AreOfModel m pairs → IsRising pairs
    → list_all test (negatives m (cells_of (length m.params) pairs)) ≡ list_all (λ pair. not (value_at m pair.0 pair.1).negative || test pair.0) pairs
negatives_pass m test pairs are rises =
    same_answer (list_all test (negatives m (cells_of (length m.params) pairs))) (list_all (λ pair. not (value_at m pair.0 pair.1).negative || test pair.0) pairs) to_pairs from_pairs
  where
    to_pairs : list_all test (negatives m (cells_of (length m.params) pairs)) ≡ true → list_all (λ pair. not (value_at m pair.0 pair.1).negative || test pair.0) pairs ≡ true
    to_pairs all =
        all_pass (λ pair. not (value_at m pair.0 pair.1).negative || test pair.0) pairs (λ pair has.
        let within : pair.0 < length m.params = (member_of_all (λ pair. pair.0 < length m.params) pairs pair (below_params m pairs are) has) in
        let given = given_by (length m.params) pair pairs (below_params m pairs are) rises has in
        elim (cases_Bool (value_at m pair.0 pair.1).negative) [
          | inl negative ↦
              let here : is_negative_at m (cells_of (length m.params) pairs) pair.0 ≡ true =
              ap (λ (cell : Option ℕ). is_some cell && (value_at m pair.0 (unwrap_or cell 0)).negative) given ∙ negative in
              or_right (not (value_at m pair.0 pair.1).negative) (test pair.0)
              (passes_all test (negatives m (cells_of (length m.params) pairs)) pair.0 all (has_negative m (cells_of (length m.params) pairs) pair.0 within here))
          | inr positive ↦ or_left (not (value_at m pair.0 pair.1).negative) (test pair.0) (not_from_false (value_at m pair.0 pair.1).negative positive)
        ])

    from_pairs : list_all (λ pair. not (value_at m pair.0 pair.1).negative || test pair.0) pairs ≡ true → list_all test (negatives m (cells_of (length m.params) pairs)) ≡ true
    from_pairs all =
        all_pass test (negatives m (cells_of (length m.params) pairs)) (λ p has.
        let kept = of_filter (is_negative_at m (cells_of (length m.params) pairs)) (param_numbers m) p has in
        let parts = and_parts (is_assigned (cells_of (length m.params) pairs) p) _ kept.1 in
        let found = of_any (λ pair. pair.0 == p) pairs (sym (assigned_by (length m.params) p pairs (below_params m pairs are)) ∙ parts.0) in
        let same : found.0.0 ≡ p = eqb-true found.0.0 p found.2 in
        let given : get_or (cells_of (length m.params) pairs) p None ≡ Some found.0.1 =
        ap (λ (k : ℕ). get_or (cells_of (length m.params) pairs) k None) (sym same) ∙ given_by (length m.params) found.0 pairs (below_params m pairs are) rises found.1 in
        let negative : (value_at m found.0.0 found.0.1).negative ≡ true =
        ap (λ (k : ℕ). (value_at m k found.0.1).negative) same ∙ sym (ap (λ (cell : Option ℕ). (value_at m p (unwrap_or cell 0)).negative) given) ∙ parts.1 in
        elim (or_cases (not (value_at m found.0.0 found.0.1).negative) (test found.0.0)
        (passes_all (λ pair. not (value_at m pair.0 pair.1).negative || test pair.0) pairs found.0 all found.1)) [
          | inl positive ↦ absurd (false≢true (sym (not-true (value_at m found.0.0 found.0.1).negative positive) ∙ negative))
          | inr passes ↦ ap test (sym same) ∙ passes
        ])

-- each is a parameter of the other pairs exactly if each pair is positive or has one of their parameters
same_all : {X : Type 0} (f g : X → Bool) (xs : List X) → ((x : X) → f x ≡ g x) → list_all f xs ≡ list_all g xs
same_all f g [] same = refl
same_all f g (x ∷ xs) same = ap (λ (b : Bool). b && list_all f xs) (same x) ∙ ap (λ (b : Bool). g x && b) (same_all f g xs same)

pub negatives_in : (m : ModelView) (pairs others : List (ℕ × ℕ)) → AreOfModel m pairs → AreOfModel m others → IsRising pairs
    → list_all (is_assigned (cells_of (length m.params) others)) (negatives m (cells_of (length m.params) pairs))
    ≡ list_all (λ pair. not (value_at m pair.0 pair.1).negative || has_param others pair.0) pairs
negatives_in m pairs others are known rises =
    same_all (is_assigned (cells_of (length m.params) others)) (has_param others) (negatives m (cells_of (length m.params) pairs))
    (λ p. assigned_by (length m.params) p others (below_params m others known)) ∙ negatives_pass m (has_param others) pairs are rises

-- ---- earlier tuples

-- the tuple of the number 0, of one that stands in the list, and of one behind it
pub cited_none : (m : ModelView) (omissions : List Omission) (number : ℕ) → number ≡ 0 → None ≡ earlier_tuple (tuples_of m omissions) number
cited_none m omissions zero is = refl
cited_none m omissions (suc i) is = absurd (omega (arith, is))

cited_place : (tuples : List (List (Option ℕ))) (number : ℕ) → (number ≡ 0 → ⊥) → earlier_tuple tuples number ≡ slice_get tuples (number - 1)
cited_place tuples zero some = absurd (some refl)
cited_place tuples (suc i) some = let same : i ≡ suc i - 1 = omega arith in ap (slice_get tuples) same

pub cited_at : (m : ModelView) (omissions : List Omission) (number : ℕ) (omission : Omission) → (number ≡ 0 → ⊥) → number - 1 < length omissions
    → omission ≡ get_or omissions (number - 1) omission → Some (cells_of (length m.params) omission.tuple) ≡ earlier_tuple (tuples_of m omissions) number
cited_at m omissions number omission some within is =
    let cells : Omission → List (Option ℕ) = λ other. cells_of (length m.params) other.tuple in
    sym (cited_place (tuples_of m omissions) number some ∙ slice_get-map cells omissions (number - 1)
    ∙ ap (option_map cells) (slice_get-get_or omissions (number - 1) omission within ∙ ap Some (sym is)))

pub cited_past : (m : ModelView) (omissions : List Omission) (number : ℕ) → (number ≡ 0 → ⊥) → length omissions ≤ number - 1
    → None ≡ earlier_tuple (tuples_of m omissions) number
cited_past m omissions number some past =
    let cells : Omission → List (Option ℕ) = λ other. cells_of (length m.params) other.tuple in
    sym (cited_place (tuples_of m omissions) number some ∙ slice_get-map cells omissions (number - 1)
    ∙ ap (option_map cells) (slice_get_past omissions (number - 1) past))
