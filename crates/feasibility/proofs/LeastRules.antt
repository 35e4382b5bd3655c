-- The least constraint that is No with one value more is one that this value leaves undecided.
use Rattle.std.proofs.Common.{◌≡◌, ℕ, ◌-◌, ◌<◌, ◌≤◌, Bool, true, false, not, cond, List, [], ◌∷◌, map, filter, find, length, get_or, Option, Some, ◌∙◌, sym, ap, refl, arith, inl, inr}
use Rattle.std.specs.List.{range_with_len}
use Rattle.std.proofs.lemmas.Bool.{false≢true, false_from_ne_true, true_from_ne_false}
use Rattle.std.proofs.lemmas.List.{get_or_default}
use Rattle.cov_model.specs.believed.Views.{RuleView}
use Rattle.cov_model.specs.believed.Sound.{ModelView, IsSound}
use Rattle.cov_model.specs.Sound.{no_rule, rule_at}
use Rattle.cov_model.specs.believed.Kleene.{body_truth}
use Rattle.compiled_rules.specs.Codes.{is_yes}
use Rattle.cov_model.specs.believed.Rows.{with_value}
use Rattle.definitions.specs.believed.Demand.{is_among}
use Rattle.definitions.specs.believed.Search.{body_params, breaks_a_rule, is_no}
use Rattle.definitions.proofs.Members.{Has, any_member, contains_member, member_of_all, of_among, of_filter}
use Rattle.feasibility.specs.Live.{no_on}
use Rattle.feasibility.specs.Tree.{naming, no_values, undecided}
use Rattle.feasibility.proofs.Broken.{settled_by_value, settled_no}
use Rattle.feasibility.proofs.Leaves.{numbers_are}
use Rattle.feasibility.proofs.Local.{agree_set, local_body}
use Rattle.feasibility.proofs.Naming.{naming_exist}

-- what is found among some of a list is found in the list, if no other passes
found_among : (test some : ℕ → Bool) (ns : List ℕ) → ((n : ℕ) → Has ns n → test n ≡ true → some n ≡ true)
    → find test (filter some ns) ≡ find test ns
found_among test some [] each = refl
found_among test some (n ∷ ns) each = by_case (some n) refl (found_among test some ns (λ k has. each k (inr has)))
  where
    by_case : (kept : Bool) → some n ≡ kept → find test (filter some ns) ≡ find test ns
        → find test (cond kept (n ∷ filter some ns) (filter some ns)) ≡ cond (test n) (Some n) (find test ns)
    by_case true is later = ap (λ (o : Option ℕ). cond (test n) (Some n) o) later
    by_case false is later =
        later ∙ sym (ap (λ (b : Bool). cond b (Some n) (find test ns))
        (false_from_ne_true (test n) (λ passes. false≢true (sym is ∙ each n (inl refl) passes))))

found_by_rules : (test : ℕ → Bool) (some : RuleView → Bool) (rules : List RuleView)
    → ((rule : RuleView) → Has rules rule → test rule.number ≡ true → some rule ≡ true)
    → find test (map (λ rule. rule.number) (filter some rules)) ≡ find test (map (λ rule. rule.number) rules)
found_by_rules test some [] each = refl
found_by_rules test some (rule ∷ rules) each = by_case (some rule) refl (found_by_rules test some rules (λ other has. each other (inr has)))
  where
    by_case : (kept : Bool) → some rule ≡ kept → find test (map (λ rule. rule.number) (filter some rules)) ≡ find test (map (λ rule. rule.number) rules)
        → find test (map (λ rule. rule.number) (cond kept (rule ∷ filter some rules) (filter some rules)))
        ≡ cond (test rule.number) (Some rule.number) (find test (map (λ rule. rule.number) rules))
    by_case true is later = ap (λ (o : Option ℕ). cond (test rule.number) (Some rule.number) o) later
    by_case false is later =
        later ∙ sym (ap (λ (b : Bool). cond b (Some rule.number) (find test (map (λ rule. rule.number) rules)))
        (false_from_ne_true (test rule.number) (λ passes. false≢true (sym is ∙ each rule (inl refl) passes))))

-- a constraint is that of its number
its_number : (m : ModelView) (rule : RuleView) → IsSound m → Has m.rules rule → rule_at m rule.number ≡ rule
its_number m rule sound has =
    let at = contains_member m.rules rule has in
    let read : get_or m.rules at.0 no_rule ≡ rule = get_or_default m.rules at.0 no_rule rule at.1 ∙ at.2 in
    let number : rule.number - 1 ≡ at.0 =
    omega (arith, sound.numbered at.0 no_rule at.1, ap (λ (r : RuleView). r.number) read) in
    ap (λ (i : ℕ). get_or m.rules i no_rule) number ∙ read

pub undecided_least : (m : ModelView) (cells : List (Option ℕ)) (q v : ℕ) → IsSound m → length cells ≡ length m.params → q < length m.params
    → breaks_a_rule m cells ≡ false
    → find (no_on m (with_value cells q v)) (undecided m q v) ≡ find (no_on m (with_value cells q v)) (range_with_len 1 (length m.rules))
undecided_least m cells q v sound long within unbroken =
    found_among (no_on m (with_value cells q v)) (λ k. not (is_yes (body_truth m (rule_at m k).body (with_value (no_values m) q v)))) (naming m q) (λ k has broken.
    let range = member_of_all (λ k. (0 < k) × (k ≤ length m.rules)) (naming m q) k (naming_exist m q sound) has in
    (of_filter (λ k. not (is_yes (body_truth m (rule_at m k).body (with_value (no_values m) q v)))) (naming m q) k
    (of_among (undecided m q v) k (listed k range.0 range.1 broken))).1)
    ∙ found_by_rules (no_on m (with_value cells q v)) (λ rule. is_among (body_params rule.body) q) m.rules named
    ∙ ap (find (no_on m (with_value cells q v))) (numbers_are m sound)
  where
    listed : (k : ℕ) → 0 < k → k ≤ length m.rules → no_on m (with_value cells q v) k ≡ true → is_among (undecided m q v) k ≡ true
    listed k least most broken = true_from_ne_false (is_among (undecided m q v) k) (λ away.
        false≢true (sym (settled_no m cells (with_value cells q v) (undecided m q v) (settled_by_value m cells q v sound long within) unbroken k least most away)
        ∙ broken))

    named : (rule : RuleView) → Has m.rules rule → no_on m (with_value cells q v) rule.number ≡ true → is_among (body_params rule.body) q ≡ true
    named rule has broken = true_from_ne_false (is_among (body_params rule.body) q) (λ away.
        false≢true (sym unbroken ∙ any_member (λ other. is_no (body_truth m other.body cells)) m.rules rule has
        (ap is_no (sym (local_body m rule.body (with_value cells q v) cells (agree_set (body_params rule.body) cells q (Some v) away)).0)
        ∙ ap (λ (r : RuleView). is_no (body_truth m r.body (with_value cells q v))) (sym (its_number m rule sound has)) ∙ broken)))
