-- Where each parameter that constraints name has a safe value, a search finds a completion unless a constraint is No, and
-- doesn't go back.
use Rattle.std.proofs.Common.{◌≡◌, ℕ, suc, ◌+◌, ◌<◌, ◌≤◌, Bool, true, false, not, ◌&&◌, List, [], ◌∷◌, map, take, length}
use Rattle.std.proofs.Common.{Option, Some, is_some, get_or, All}
use Rattle.std.proofs.Common.{◌⊎◌, ◌∙◌, sym, ap, subst, refl, arith, inl, inr}
use Rattle.std.specs.List.{list_any, sum_by}
use Rattle.std.proofs.lemmas.Bool.{false≢true, cases_Bool, false_from_ne_true, le-ltb, ltb-false, not-false, or_from, or_left, or_parts}
use Rattle.std.proofs.lemmas.List.{length-set}
use Rattle.std.proofs.lemmas.List.Elements.{All-map, All-more, All-nil, Contains-get_or}
use Rattle.std.proofs.lemmas.List.FromFn.{length-map-range_with_len}
use Rattle.std.proofs.lemmas.List.Sums.{sum_by-cons, sum_by_more}
use Rattle.value_text.proofs.ListLemmas.{none_at}
use Rattle.cov_model.specs.believed.Sound.{ModelView, IsSound, param_at}
use Rattle.cov_model.specs.believed.Rows.{is_assigned, with_value}
use Rattle.cov_model.specs.believed.Valid.{param_numbers}
use Rattle.definitions.specs.declared.effort.Effort.{Effort}
use Rattle.definitions.specs.declared.effort.Effort.TheVariants.{Within, Full}
use Rattle.definitions.specs.believed.Search.{Outcome, breaks_a_rule, constrained_params, exceeds, is_failing, is_stuck, try_values, visit}
use Rattle.definitions.proofs.Members.{Has, all_members, among_has, any_member, has_contained, has_filter, has_map, member_of_all, of_among, of_any, of_filter}
use Rattle.definitions.proofs.SliceLemmas.{has_params, of_params}
use Rattle.feasibility.specs.declared.constrained.Constrained.{Constrained}
use Rattle.feasibility.specs.Live.{breaks_one, undecided_of}
use Rattle.feasibility.specs.SafeValues.{AreSafe, HasSafeValue}
use Rattle.feasibility.specs.Tree.{ListsValues, all_constrained, is_named, no_values, undecided, undecided_by}
use Rattle.feasibility.proofs.Broken.{IsSettled, settled_by_value, settled_by_values, settled_no, told_by}
use Rattle.feasibility.proofs.Costs.{visit_node, visit_skip}
use Rattle.feasibility.proofs.Naming.{has_undecided, undecided_none, undecided_of_exist}
use Rattle.feasibility.proofs.Visits.{failing_outcome, first}

-- the values of the parameters that constraints name stand in lists, and what these leave undecided
pub constrained_listed : (m : ModelView) (lists : List (List ℕ)) → ListsValues m lists
    → All (λ named. named.param < length lists) (all_constrained m)
constrained_listed m lists values =
    All-map (λ (named : Constrained). named.param < length lists) (undecided_by m) (constrained_params m)
    (all_members (λ p. p < length lists) (constrained_params m) (λ p has.
    omega (arith, values.as_many, of_params m p (of_filter (is_named m) (param_numbers m) p has).0)))

pub undecided_listed : (m : ModelView) (lists : List (List ℕ)) → ListsValues m lists
    → All (λ named. All (λ v. v < length named.undecided) (get_or lists named.param [])) (all_constrained m)
undecided_listed m lists values =
    All-map (λ (named : Constrained). All (λ v. v < length named.undecided) (get_or lists named.param [])) (undecided_by m) (constrained_params m)
    (all_members (λ p. All (λ v. v < length (undecided_by m p).undecided) (get_or lists p [])) (constrained_params m) (λ p has.
    all_members (λ v. v < length (undecided_by m p).undecided) (get_or lists p []) (λ v listed.
    omega (
      arith,
      values.exist p v (among_has (get_or lists p []) v listed),
      length-map-range_with_len (undecided m p) 0 (length (param_at m.params p).values),
    ))))

-- one parameter more with a safe value
pub safe_more : (entries : List Constrained) (lists : List (List ℕ)) (i most more : ℕ) (named : Constrained) → i < length entries
    → named ≡ get_or entries i named → AreSafe (take i entries) lists most → HasSafeValue named (get_or lists named.param [])
    → more ≡ most + length (get_or lists named.param []) → AreSafe (take (i + 1) entries) lists more
safe_more entries lists i most more named within is before safe sum = record {
  each = All-more (λ (entry : Constrained). HasSafeValue entry (get_or lists entry.param [])) entries i named within before.each
      (subst (λ (entry : Constrained). HasSafeValue entry (get_or lists entry.param [])) is safe);
  sum = omega (
    arith,
    before.sum,
    sum,
    sum_by_more (λ (entry : Constrained). length (get_or lists entry.param [])) entries i named within,
    ap (λ (entry : Constrained). length (get_or lists entry.param [])) is,
  );
}

-- a parameter has a listed value that leaves no constraint undecided
record Decided (m : ModelView) (lists : List (List ℕ)) (p : ℕ) : Type 0 where
  value : ℕ
  listed : Has (get_or lists p []) value
  decides : undecided m p value ≡ []

-- so it is of each parameter: any listed value of one that no constraint names
each_decided : (m : ModelView) (lists : List (List ℕ)) (most : ℕ) → IsSound m → ListsValues m lists → is_failing m lists (no_values m) ≡ false
    → AreSafe (all_constrained m) lists most → (p : ℕ) → p < length m.params → Decided m lists p
each_decided m lists most sound values node safe p low =
    elim (cases_Bool (is_named m p)) [
      | inl named ↦
          let has = member_of_all (λ (named : Constrained). HasSafeValue named (get_or lists named.param [])) (all_constrained m) (undecided_by m p) safe.each
          (has_map (undecided_by m) (constrained_params m) p (has_filter (is_named m) (param_numbers m) p (has_params m p low) named)) in
          record {
            value = has.value;
            listed = of_among (get_or lists p []) has.value has.listed;
            decides = sym (has_undecided m p has.value (undecided_by m p) sound refl (values.exist p has.value has.listed)).list ∙ has.safe;
          }
      | inr unnamed ↦
          let live = λ (v : ℕ). not (breaks_a_rule m (with_value (no_values m) p v)) in
          let stuck : is_stuck m lists (no_values m) p ≡ false = false_from_ne_true (is_stuck m lists (no_values m) p) (λ is.
          false≢true (sym (or_parts (breaks_a_rule m (no_values m)) (list_any (is_stuck m lists (no_values m)) (param_numbers m)) node).1
          ∙ any_member (is_stuck m lists (no_values m)) (param_numbers m) p (has_params m p low) is)) in
          let free : is_assigned (no_values m) p ≡ false = ap is_some (none_at (length m.params) p) in
          let found = of_any live (get_or lists p []) (not-false (list_any live (get_or lists p []))
          (sym (ap (λ (b : Bool). not b && not (list_any live (get_or lists p []))) free) ∙ stuck)) in
          record {
            value = found.0;
            listed = found.1;
            decides = sym (undecided_none m p found.0 low (λ k within same.
                false≢true (sym unnamed ∙ ap (is_named m) (sym same)
                ∙ (of_filter (is_named m) (param_numbers m) (get_or (constrained_params m) k 0)
                (has_contained (constrained_params m) (get_or (constrained_params m) k 0) (Contains-get_or (constrained_params m) k 0 within))).1)));
          }
    ]

-- such a value makes no constraint No
decided_keeps : (m : ModelView) (cells : List (Option ℕ)) (p v : ℕ) → IsSound m → length cells ≡ length m.params → p < length m.params
    → undecided m p v ≡ [] → breaks_a_rule m cells ≡ false → breaks_a_rule m (with_value cells p v) ≡ false
decided_keeps m cells p v sound long low decides whole =
    told_by m [] (with_value cells p v) (All-nil (λ k. (0 < k) × (k ≤ length m.rules)))
    (settled_no m cells (with_value cells p v) [] (subst (IsSettled m cells (with_value cells p v)) decides (settled_by_value m cells p v sound long low))
    whole)

-- so a node fails only where a constraint is No
node_whole : (m : ModelView) (lists : List (List ℕ)) (cells : List (Option ℕ)) → IsSound m → ((p : ℕ) → p < length m.params → Decided m lists p)
    → length cells ≡ length m.params → breaks_a_rule m cells ≡ false → is_failing m lists cells ≡ false
node_whole m lists cells sound each long whole =
    or_from (breaks_a_rule m cells) (list_any (is_stuck m lists cells) (param_numbers m)) whole
    (false_from_ne_true (list_any (is_stuck m lists cells) (param_numbers m)) (λ some.
    let found = of_any (is_stuck m lists cells) (param_numbers m) some in
    false≢true (sym (not_stuck found.0 (of_params m found.0 found.1)) ∙ found.2)))
  where
    not_stuck : (p : ℕ) → p < length m.params → is_stuck m lists cells p ≡ false
    not_stuck p low = elim (cases_Bool (is_assigned cells p)) [
      | inl given ↦ ap (λ (b : Bool). not b && not (list_any (λ v. not (breaks_a_rule m (with_value cells p v))) (get_or lists p []))) given
      | inr free ↦
          let live = λ (v : ℕ). not (breaks_a_rule m (with_value cells p v)) in
          let one = each p low in
          ap (λ (b : Bool). not b && not (list_any live (get_or lists p []))) free
          ∙ ap not (any_member live (get_or lists p []) one.value one.listed
          (ap not (decided_keeps m cells p one.value sound long low one.decides whole)))
    ]

-- a visit finds a completion and costs no more than this
record Finds (outcome : Outcome) (most : ℕ) : Type 0 where
  found : outcome.found ≡ true
  few : outcome.cost ≤ most

-- where each value leads to a node that fails or to a completion, and one of them to a completion
tries : (visited : List (Option ℕ) → Outcome) (cells : List (Option ℕ)) (p most : ℕ) (values : List ℕ) (v : ℕ) → Has values v
    → (visited (with_value cells p v)).found ≡ true
    → ((w : ℕ) → (visited (with_value cells p w) ≡ record { found = false; cost = 1 }) ⊎ Finds (visited (with_value cells p w)) (suc most))
    → Finds (try_values visited cells p values) (length values + most)
tries visited cells p most [] v has is each = absurd has
tries visited cells p most (w ∷ values) v has is each = by_case (λ later. tries visited cells p most values v later is each) (each w) has
  where
    by_case : (Has values v → Finds (try_values visited cells p values) (length values + most))
        → (visited (with_value cells p w) ≡ record { found = false; cost = 1 }) ⊎ Finds (visited (with_value cells p w)) (suc most)
        → Has (w ∷ values) v → Finds (try_values visited cells p (w ∷ values)) (length (w ∷ values) + most)
    by_case rest (inl fails) (inl same) =
        absurd (false≢true (sym (ap (λ (outcome : Outcome). outcome.found) fails) ∙ ap (λ (u : ℕ). (visited (with_value cells p u)).found) same ∙ is))
    by_case rest (inl fails) (inr later) =
        let one = first visited (λ row. row) cells p w values false (ap (λ (outcome : Outcome). outcome.found) fails) in
        record {
          found = one.found ∙ (rest later).found;
          few = omega (arith, one.cost, ap (λ (outcome : Outcome). outcome.cost) fails, (rest later).few);
        }
    by_case rest (inr finds) has =
        let one = first visited (λ row. row) cells p w values true finds.found in
        record { found = one.found; few = omega (arith, one.cost, finds.few) }

-- how many values the parameters have that constraints name
abbrev value_sum : ModelView → List (List ℕ) → List ℕ → ℕ
value_sum m lists params = sum_by (λ (named : Constrained). length (get_or lists named.param [])) (map (undecided_by m) params)

-- a search of a row on which no constraint is No
finds : (m : ModelView) (lists : List (List ℕ)) (params : List ℕ) (cells : List (Option ℕ)) → IsSound m
    → ((p : ℕ) → p < length m.params → Decided m lists p) → ((p : ℕ) → Has params p → p < length m.params) → length cells ≡ length m.params
    → breaks_a_rule m cells ≡ false → Finds (visit m lists params cells) (suc (value_sum m lists params))
finds m lists [] cells sound each exist long whole = record {
  found = ap not (node_whole m lists cells sound each long whole);
  few = omega arith;
}
finds m lists (p ∷ params) cells sound each exist long whole =
    of_below (λ row same unbroken. finds m lists params row sound each (λ q has. exist q (inr has)) same unbroken)
  where
    Below : Type 0
    Below = (row : List (Option ℕ)) → length row ≡ length m.params → breaks_a_rule m row ≡ false
        → Finds (visit m lists params row) (suc (value_sum m lists params))

    more : value_sum m lists (p ∷ params) ≡ length (get_or lists p []) + value_sum m lists params
    more = sum_by-cons (λ (named : Constrained). length (get_or lists named.param [])) (undecided_by m p) (map (undecided_by m) params)

    with_live : Below → (w : ℕ) → breaks_a_rule m (with_value cells p w) ≡ false
        → Finds (visit m lists params (with_value cells p w)) (suc (value_sum m lists params))
    with_live below w unbroken = below (with_value cells p w) (length-set cells p (Some w) ∙ long) unbroken

    by_value : Below → (w : ℕ) → (visit m lists params (with_value cells p w) ≡ record { found = false; cost = 1 })
        ⊎ Finds (visit m lists params (with_value cells p w)) (suc (value_sum m lists params))
    by_value below w = elim (cases_Bool (breaks_a_rule m (with_value cells p w))) [
      | inl broken ↦
          inl (failing_outcome m lists params (with_value cells p w)
          (or_left (breaks_a_rule m (with_value cells p w)) (list_any (is_stuck m lists (with_value cells p w)) (param_numbers m)) broken))
      | inr unbroken ↦ inr (with_live below w unbroken)
    ]

    of_below : Below → Finds (visit m lists (p ∷ params) cells) (suc (value_sum m lists (p ∷ params)))
    of_below below = elim (cases_Bool (is_assigned cells p)) [
      | inl given ↦
          let rest = below cells long whole in
          subst (λ (outcome : Outcome). Finds outcome (suc (value_sum m lists (p ∷ params)))) (sym (visit_skip m lists (p ∷ params) 0 cells (omega arith) given))
          (record { found = rest.found; few = omega (arith, rest.few, more) })
      | inr free ↦
          let node = node_whole m lists cells sound each long whole in
          let one = each p (exist p (inl refl)) in
          let tried = tries (visit m lists params) cells p (value_sum m lists params) (get_or lists p []) one.value one.listed
          (with_live below one.value (decided_keeps m cells p one.value sound long (exist p (inl refl)) one.decides whole)).found (by_value below) in
          subst (λ (outcome : Outcome). Finds outcome (suc (value_sum m lists (p ∷ params))))
          (sym (visit_node m lists (p ∷ params) 0 cells (omega arith) free node))
          (record { found = tried.found; few = omega (arith, tried.few, more) })
    ]

-- what a search of any row finds, and that it costs no more than this
pub record SearchIs (outcome : Outcome) (broken : Bool) (most : ℕ) : Type 0 where
  pub found : not broken ≡ outcome.found
  pub few : outcome.cost ≤ most

pub safe_search : (m : ModelView) (lists : List (List ℕ)) (most : ℕ) (cells : List (Option ℕ)) → IsSound m → ListsValues m lists
    → is_failing m lists (no_values m) ≡ false → AreSafe (all_constrained m) lists most → length cells ≡ length m.params
    → SearchIs (visit m lists (constrained_params m) cells) (breaks_a_rule m cells) most
safe_search m lists most cells sound values node safe long =
    elim (cases_Bool (breaks_a_rule m cells)) [
      | inl broken ↦
          let is = failing_outcome m lists (constrained_params m) cells
          (or_left (breaks_a_rule m cells) (list_any (is_stuck m lists cells) (param_numbers m)) broken) in
          record {
            found = ap not broken ∙ sym (ap (λ (outcome : Outcome). outcome.found) is);
            few = omega (arith, ap (λ (outcome : Outcome). outcome.cost) is, safe.sum);
          }
      | inr whole ↦
          let is = finds m lists (constrained_params m) cells sound (each_decided m lists most sound values node safe)
          (λ p has. of_params m p (of_filter (is_named m) (param_numbers m) p has).0) long whole in
          record { found = ap not whole ∙ sym is.found; few = omega (arith, is.few, safe.sum) }
    ]

-- what isn't more than a question may cost
pub within_most : (effort : Effort) (most cost : ℕ) → exceeds effort most ≡ false → cost ≤ most → exceeds effort cost ≡ false
within_most (Within budget) most cost enough few = le-ltb budget cost (omega (arith, ltb-false budget most enough, few))
within_most Full most cost enough few = refl

-- a constraint is No on a row only where one is that a value of the row leaves undecided
pub broken_by_values : (m : ModelView) (cells : List (Option ℕ)) → IsSound m → length cells ≡ length m.params → breaks_a_rule m (no_values m) ≡ false
    → breaks_a_rule m cells ≡ breaks_one m (undecided_of m cells (constrained_params m)) cells
broken_by_values m cells sound long whole =
    let numbers = undecided_of m cells (constrained_params m) in
    told_by m numbers cells (undecided_of_exist m cells (constrained_params m) sound)
    (settled_no m (no_values m) cells numbers (settled_by_values m cells sound long) whole)
