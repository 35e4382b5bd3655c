-- Constraints that are No on a partial row, and on one that gives more values.
use Rattle.std.proofs.Common.{◌≡◌, ℕ, ◌+◌, ◌-◌, ◌<◌, ◌≤◌, Bool, true, false, not, List, [], ◌∷◌, length, filter, Option, Some, None}
use Rattle.std.proofs.Common.{is_some, get_or, set, replicate, if◌then◌else◌, ◌⊎◌, ◌∙◌, sym, ap, subst, arith, inl, inr}
use Rattle.std.specs.List.{list_any}
use Rattle.std.proofs.lemmas.Bool.{false≢true, cases_Bool, cases_eq, cases_lt, false_from_ne_true, not-false}
use Rattle.std.proofs.lemmas.List.{get_or-set_other, get_or-set_same, get_or_default, get_or_past, length-replicate, length-set}
use Rattle.std.proofs.lemmas.List.Elements.{Contains-get_or}
use Rattle.std.proofs.lemmas.List.Folds.{Any-from_list_any, list_any_at}
use Rattle.value_text.proofs.ListLemmas.{Some-unwrap_or, none_at, none_of}
use Rattle.cov_model.specs.believed.Sound.{ModelView, IsSound}
use Rattle.cov_model.specs.Sound.{no_rule, rule_at}
use Rattle.cov_model.specs.believed.Kleene.{body_truth}
use Rattle.cov_model.specs.believed.Rows.{is_assigned, value_in, with_value}
use Rattle.cov_model.specs.believed.Valid.{param_numbers}
use Rattle.cov_model.proofs.CellLemmas.{assigned_within}
use Rattle.definitions.specs.believed.Demand.{is_among}
use Rattle.definitions.specs.believed.Search.{body_params, breaks_a_rule, constrained_params, is_no}
use Rattle.definitions.proofs.Members.{Has, among_has, any_member, has_contained, has_filter, has_flat, has_map, member_of_all, of_among, of_any, same_answer}
use Rattle.definitions.proofs.SliceLemmas.{has_params}
use Rattle.compiled_rules.specs.Codes.{is_yes}
use Rattle.feasibility.specs.Live.{AreRules, breaks_one, no_on, undecided_of}
use Rattle.feasibility.specs.Tree.{is_named, naming, no_values, undecided}
use Rattle.feasibility.proofs.Growing.{Longer, no_from_no, not_no, stays_body, yes_from_yes}
use Rattle.feasibility.proofs.Local.{AgreeOn, agree_each, agree_set, local_body}

-- where one is No, it has a number
pub record IsBroken (m : ModelView) (cells : List (Option ℕ)) : Type 0 where
  pub rule : ℕ
  pub some : 0 < rule
  pub most : rule ≤ length m.rules
  pub is : no_on m cells rule ≡ true

pub broken_by : (m : ModelView) (cells : List (Option ℕ)) → breaks_a_rule m cells ≡ true → IsBroken m cells
broken_by m cells broken =
    let found = Any-from_list_any (λ rule. is_no (body_truth m rule.body cells)) m.rules broken in
    let place : found.0 + 1 - 1 ≡ found.0 = omega arith in
    record {
      rule = found.0 + 1;
      some = omega arith;
      most = omega (arith, found.2);
      is = ap (λ (i : ℕ). is_no (body_truth m (get_or m.rules i no_rule).body cells)) place
          ∙ ap (λ rule. is_no (body_truth m rule.body cells)) (get_or_default m.rules found.0 no_rule found.1 found.2 ∙ found.3) ∙ found.4;
    }

pub breaks_by : (m : ModelView) (cells : List (Option ℕ)) (k : ℕ) → 0 < k → k ≤ length m.rules → no_on m cells k ≡ true → breaks_a_rule m cells ≡ true
breaks_by m cells k some most is = list_any_at (λ rule. is_no (body_truth m rule.body cells)) m.rules (k - 1) no_rule (omega (arith, some, most)) is

-- where one of some constraints is No, so is one of all
pub breaks_of : (m : ModelView) (numbers : List ℕ) (cells : List (Option ℕ)) → AreRules m numbers → breaks_one m numbers cells ≡ true
    → breaks_a_rule m cells ≡ true
breaks_of m numbers cells exist broken =
    let found = of_any (no_on m cells) numbers broken in
    let range = member_of_all (λ k. (0 < k) × (k ≤ length m.rules)) numbers found.0 exist found.1 in
    breaks_by m cells found.0 range.0 range.1 found.2

-- some constraints tell whether one is No, if no other is
pub told_by : (m : ModelView) (numbers : List ℕ) (cells : List (Option ℕ)) → AreRules m numbers
    → ((k : ℕ) → 0 < k → k ≤ length m.rules → is_among numbers k ≡ false → no_on m cells k ≡ false) → breaks_a_rule m cells ≡ breaks_one m numbers cells
told_by m numbers cells exist others = same_answer (breaks_a_rule m cells) (breaks_one m numbers cells) forward (breaks_of m numbers cells exist)
  where
    forward : breaks_a_rule m cells ≡ true → breaks_one m numbers cells ≡ true
    forward broken =
        let found = broken_by m cells broken in
        elim (cases_Bool (is_among numbers found.rule)) [
          | inl listed ↦ any_member (no_on m cells) numbers found.rule (of_among numbers found.rule listed) found.is
          | inr away ↦ absurd (false≢true (sym (others found.rule found.some found.most away) ∙ found.is))
        ]

-- where one is No, one is on each longer row
pub broken_stays : (m : ModelView) (a b : List (Option ℕ)) → Longer a b → breaks_a_rule m a ≡ true → breaks_a_rule m b ≡ true
broken_stays m a b longer broken =
    let found = broken_by m a broken in
    breaks_by m b found.rule found.some found.most (no_from_no _ _ (stays_body m (rule_at m found.rule).body a b longer) found.is)

-- longer rows
pub longer_with : (a b : List (Option ℕ)) (q w : ℕ) → length a ≡ length b → Longer a b → Longer (with_value a q w) (with_value b q w)
longer_with a b q w long longer p assigned =
    elim (cases_eq p q) [
      | inl same ↦
          let within : q < length a = subst (λ (k : ℕ). k < length a) same
          (omega (arith, assigned_within (with_value a q w) p assigned, length-set a q (Some w))) in
          ap (λ (k : ℕ). get_or (with_value b q w) k None) same ∙ get_or-set_same b q (Some w) None (omega (arith, within, long))
          ∙ sym (ap (λ (k : ℕ). get_or (with_value a q w) k None) same ∙ get_or-set_same a q (Some w) None within)
      | inr differs ↦
          get_or-set_other b q p (Some w) None differs
          ∙ longer p (ap is_some (sym (get_or-set_other a q p (Some w) None differs)) ∙ assigned) ∙ sym (get_or-set_other a q p (Some w) None differs)
    ]

pub longer_set : (cells : List (Option ℕ)) (p v : ℕ) → is_assigned cells p ≡ false → Longer cells (with_value cells p v)
longer_set cells p v free q assigned = get_or-set_other cells p q (Some v) None (λ same. false≢true (sym free ∙ ap (is_assigned cells) (sym same) ∙ assigned))

pub shorter_free : (a b : List (Option ℕ)) (q : ℕ) → Longer a b → is_assigned b q ≡ false → is_assigned a q ≡ false
shorter_free a b q longer free = false_from_ne_true (is_assigned a q) (λ given. false≢true (sym free ∙ ap is_some (longer q given) ∙ given))

pub longer_none : (n : ℕ) (cells : List (Option ℕ)) → Longer (replicate n None) cells
longer_none n cells p assigned = absurd (false≢true (ap is_some (sym (none_at n p)) ∙ assigned))

-- a value stands alone on a row that cells with this value are longer than
pub longer_alone : (n : ℕ) (cells : List (Option ℕ)) (p v : ℕ) → length cells ≡ n → get_or cells p None ≡ Some v
    → Longer (with_value (replicate n None) p v) cells
longer_alone n cells p v long is q assigned =
    elim (cases_eq q p) [
      | inl same ↦
          let within : p < n = omega (arith, assigned_within cells p (ap is_some is), long) in
          ap (λ (k : ℕ). get_or cells k None) same ∙ is
          ∙ sym (ap (λ (k : ℕ). get_or (with_value (replicate n None) p v) k None) same
          ∙ get_or-set_same (replicate n None) p (Some v) None (omega (arith, within, length-replicate {A = Option ℕ} n None)))
      | inr differs ↦
          absurd (false≢true (ap is_some (sym (get_or-set_other (replicate n None) p q (Some v) None differs ∙ none_at n q)) ∙ assigned))
    ]

-- a constraint that names a parameter and isn't undecided by its value holds
pub decided : (m : ModelView) (cells : List (Option ℕ)) (p v k : ℕ) → IsSound m → length cells ≡ length m.params → get_or cells p None ≡ Some v → 0 < k
    → k ≤ length m.rules
    → is_among (body_params (rule_at m k).body) p ≡ true → is_among (undecided m p v) k ≡ false → is_yes (body_truth m (rule_at m k).body cells) ≡ true
decided m cells p v k sound long is some most named away =
    yes_from_yes _ _ (stays_body m (rule_at m k).body (with_value (no_values m) p v) cells (longer_alone (length m.params) cells p v long is))
    (not-false (is_yes (body_truth m (rule_at m k).body (with_value (no_values m) p v))) (false_from_ne_true _ (λ left.
    false≢true (sym away ∙ among_has (undecided m p v) k (has_filter (λ j. not (is_yes (body_truth m (rule_at m j).body (with_value (no_values m) p v))))
    (naming m p) k has_naming left)))))
  where
    number : (rule_at m k).number ≡ k
    number = omega (arith, sound.numbered (k - 1) no_rule (omega (arith, some, most)), some)

    has_naming : Has (naming m p) k
    has_naming =
        subst (Has (naming m p)) number
        (has_map (λ rule. rule.number) (filter (λ rule. is_among (body_params rule.body) p) m.rules) (rule_at m k)
        (has_filter (λ rule. is_among (body_params rule.body) p) m.rules (rule_at m k)
        (has_contained m.rules (rule_at m k) (Contains-get_or m.rules (k - 1) no_rule (omega (arith, some, most)))) named))

-- of a longer row each constraint that isn't among some either names only parameters that it gives as the row
-- before it does, or holds
abbrev pub IsSettled : ModelView → List (Option ℕ) → List (Option ℕ) → List ℕ → Type 0
IsSettled m before after numbers =
    (k : ℕ) → 0 < k → k ≤ length m.rules → is_among numbers k ≡ false
    → AgreeOn (body_params (rule_at m k).body) after before ⊎ (is_yes (body_truth m (rule_at m k).body after) ≡ true)

-- so it isn't No
pub settled_no : (m : ModelView) (before after : List (Option ℕ)) (numbers : List ℕ) → IsSettled m before after numbers → breaks_a_rule m before ≡ false
    → (k : ℕ) → 0 < k → k ≤ length m.rules → is_among numbers k ≡ false → no_on m after k ≡ false
settled_no m before after numbers settled unbroken k some most away =
    elim (settled k some most away) [
      | inl agree ↦
          false_from_ne_true (no_on m after k) (λ is.
          false≢true (sym unbroken ∙ breaks_by m before k some most (ap is_no (sym (local_body m (rule_at m k).body after before agree).0) ∙ is)))
      | inr holds ↦ not_no (body_truth m (rule_at m k).body after) holds
    ]

agree_with : (params : List ℕ) (a b : List (Option ℕ)) (q : ℕ) (cell : Option ℕ) → length a ≡ length b → AgreeOn params a b
    → AgreeOn params (set a q cell) (set b q cell)
agree_with [] a b q cell long agree = tt
agree_with (p ∷ params) a b q cell long agree = (
  elim (cases_eq p q) [
    | inl same ↦ ap (λ (k : ℕ). get_or (set a q cell) k None) same ∙ at (cases_lt q (length a)) ∙ sym (ap (λ (k : ℕ). get_or (set b q cell) k None) same)
    | inr differs ↦ get_or-set_other a q p cell None differs ∙ agree.0 ∙ sym (get_or-set_other b q p cell None differs)
  ],
  agree_with params a b q cell long agree.1,
)
  where
    at : (q < length a) ⊎ (length a ≤ q) → get_or (set a q cell) q None ≡ get_or (set b q cell) q None
    at (inl within) = get_or-set_same a q cell None within ∙ sym (get_or-set_same b q cell None (omega (arith, within, long)))
    at (inr past) =
        get_or_past (set a q cell) q None (omega (arith, past, length-set a q cell))
        ∙ sym (get_or_past (set b q cell) q None (omega (arith, past, long, length-set b q cell)))

-- with the same value more on both
pub settled_with : (m : ModelView) (before after : List (Option ℕ)) (numbers : List ℕ) (q w : ℕ) → length after ≡ length before → is_assigned after q ≡ false
    → IsSettled m before after numbers → IsSettled m (with_value before q w) (with_value after q w) numbers
settled_with m before after numbers q w long free settled k some most away =
    elim (settled k some most away) [
      | inl agree ↦ inl (agree_with (body_params (rule_at m k).body) after before q (Some w) long agree)
      | inr holds ↦ inr (yes_from_yes _ _ (stays_body m (rule_at m k).body after (with_value after q w) (longer_set after q w free)) holds)
    ]

-- one value more is settled by the constraints that it leaves undecided
pub settled_by_value : (m : ModelView) (cells : List (Option ℕ)) (p v : ℕ) → IsSound m → length cells ≡ length m.params → p < length m.params
    → IsSettled m cells (with_value cells p v) (undecided m p v)
settled_by_value m cells p v sound long within k some most away =
    elim (cases_Bool (is_among (body_params (rule_at m k).body) p)) [
      | inl named ↦
          inr (decided m (with_value cells p v) p v k sound (length-set cells p (Some v) ∙ long)
          (get_or-set_same cells p (Some v) None (omega (arith, within, long))) some most named away)
      | inr unnamed ↦ inl (agree_set (body_params (rule_at m k).body) cells p (Some v) unnamed)
    ]

-- and a row is by those that its values leave undecided, from the row without values
pub settled_by_values : (m : ModelView) (cells : List (Option ℕ)) → IsSound m → length cells ≡ length m.params
    → IsSettled m (no_values m) cells (undecided_of m cells (constrained_params m))
settled_by_values m cells sound long k some most away =
    elim (cases_Bool (list_any (is_assigned cells) (body_params (rule_at m k).body))) [
      | inl some_given ↦
          let found = of_any (is_assigned cells) (body_params (rule_at m k).body) some_given in
          inr (holds found.0 (among_has (body_params (rule_at m k).body) found.0 found.1) found.2)
      | inr none_given ↦
          inl (agree_each (body_params (rule_at m k).body) cells (no_values m) (λ q named.
          none_of (get_or cells q None) (false_from_ne_true (is_assigned cells q) (λ given.
          false≢true (sym none_given ∙ any_member (is_assigned cells) (body_params (rule_at m k).body) q (of_among (body_params (rule_at m k).body) q named)
          given)))
          ∙ sym (none_at (length m.params) q)))
    ]
  where
    holds : (p : ℕ) → is_among (body_params (rule_at m k).body) p ≡ true → is_assigned cells p ≡ true → is_yes (body_truth m (rule_at m k).body cells) ≡ true
    holds p named given =
        let low : p < length m.params = omega (arith, assigned_within cells p given, long) in
        let named_by = list_any_at (λ rule. is_among (body_params rule.body) p) m.rules (k - 1) no_rule (omega (arith, some, most)) named in
        let listed : Has (constrained_params m) p = has_filter (is_named m) (param_numbers m) p (has_params m p low) named_by in
        decided m cells p (value_in cells p) k sound long (Some-unwrap_or (get_or cells p None) 0 given) some most named
        (false_from_ne_true (is_among (undecided m p (value_in cells p)) k) (λ left.
        false≢true (sym away ∙ among_has (undecided_of m cells (constrained_params m)) k
        (has_flat (λ q. if is_assigned cells q then undecided m q (value_in cells q) else []) (constrained_params m) p k listed
        (subst (λ (b : Bool). Has (if b then undecided m p (value_in cells p) else []) k) (sym given)
        (of_among (undecided m p (value_in cells p)) k left))))))
