-- The values at a rank are a choice: they exist, and at most one is negative.
use Rattle.std.proofs.Common.{inl, inr, ◌≡◌, ℕ, ◌+◌, ◌≤◌, Bool, true, false, not, List, [], ◌∷◌, map, length, get_or, Some, ◌∙◌, refl, sym, subst, ap, arith, zero-add}
use Rattle.std.specs.Prelude.{◌==◌, slice_get, if◌then◌else◌}
use Rattle.std.specs.List.{flat_map}
use Rattle.std.proofs.lemmas.Bool.{cases_eq, cases_lt, false≢true, and_from, and_parts, or_left, or_right, eq-eqb, eqb-true, false_from_ne_true}
use Rattle.std.proofs.lemmas.Bool.Decides.{nat_tests}
use Rattle.std.proofs.lemmas.List.{get_or_past}
use Rattle.std.proofs.lemmas.List.FromFn.{get_or-map-range_with_len, length-map-range_with_len}
use Rattle.std.proofs.Math.Bool.{or-false}
use Rattle.cov_model.specs.declared.slice.Slice.TheVariants.{Positive, Negative}
use Rattle.cov_model.specs.believed.Sound.{ModelView}
use Rattle.cov_model.specs.believed.Meaning.{value_at}
use Rattle.cov_model.specs.believed.Valid.{param_numbers}
use Rattle.cov_model.specs.believed.Slices.{positive_values, negative_values, value_numbers}
use Rattle.definitions.specs.believed.Demand.{is_among}
use Rattle.definitions.proofs.Members.{Has, of_append, of_map, of_flat, of_filter, among_has, of_among, has_place}
use Rattle.tuple_index.specs.Plan.{PlanView, plan_of, IsChoice, are_values, is_negative, is_value, negative_count}
use Rattle.tuple_index.specs.Places.{RisesFrom, values_in, negatives_of, value_lists, negative_lists, tuple_lists}
use Rattle.tuple_index.proofs.PlaceLemmas.{all_among}
use Rattle.tuple_index.proofs.RankLemmas.{all_among_above}

-- a listed choice gives each member one of its values
of_lists : (values : ℕ → List ℕ) (set chosen : List ℕ) → Has (value_lists values set) chosen → all_among values set chosen ≡ true
of_lists values [] chosen (inl same) = subst (λ c. all_among values [] c ≡ true) same refl
of_lists values [] chosen (inr has) = absurd has
of_lists values (p ∷ set) chosen has =
    let first = of_flat (λ v. map (λ rest. v ∷ rest) (value_lists values set)) (values p) chosen has in
    let rest = of_map (λ rest. first.0 ∷ rest) (value_lists values set) chosen first.2 in
    subst (λ c. all_among values (p ∷ set) c ≡ true) rest.2
    (and_from (is_among (values p) first.0) (all_among values set rest.0) (among_has (values p) first.0 first.1) (of_lists values set rest.0 rest.1))

-- no value of a parameter is both negative and not
abbrev AreApart : PlanView → Type 0
AreApart plan = (p v : ℕ) → is_among (values_in plan Positive p) v ≡ true → is_negative plan p v ≡ false

apart_of : (m : ModelView) → AreApart (plan_of m)
apart_of m p v among =
    elim (cases_lt p (length m.params)) [
      | inl within ↦
          let positive = of_filter (λ v. not (value_at m p v).negative) (value_numbers m p) v
          (of_among (positive_values m p) v (subst (λ vs. is_among vs v ≡ true)
          (get_or-map-range_with_len (positive_values m) 0 (length m.params) p p [] within (zero-add p)) among)) in
          false_from_ne_true (is_negative (plan_of m) p v) (λ listed.
          let negative = of_filter (λ v. (value_at m p v).negative) (value_numbers m p) v
          (of_among (negative_values m p) v (subst (λ vs. is_among vs v ≡ true)
          (get_or-map-range_with_len (negative_values m) 0 (length m.params) p p [] within (zero-add p)) listed)) in
          false≢true (ap not (sym negative.1) ∙ positive.1))
      | inr past ↦
          let none : get_or (map (positive_values m) (param_numbers m)) p [] ≡ [] =
          get_or_past (map (positive_values m) (param_numbers m)) p []
          (omega (arith, past, length-map-range_with_len (positive_values m) 0 (length m.params))) in
          absurd (false≢true (subst (λ vs. is_among vs v ≡ true) none among))
    ]

-- one member more, with a value that isn't negative
positive_more : (plan : PlanView) (p v n most : ℕ) (set chosen : List ℕ) → AreApart plan → is_among (values_in plan Positive p) v ≡ true
    → are_values plan set chosen ≡ true → negative_count plan set chosen ≤ most → (are_values plan (p ∷ set) (v ∷ chosen) ≡ true)
    × (negative_count plan (p ∷ set) (v ∷ chosen) ≤ most)
positive_more plan p v n most set chosen apart own exist few =
    let none : negative_count plan (p ∷ set) (v ∷ chosen) ≡ 0 + negative_count plan set chosen =
    ap (λ (b : Bool). (if b then 1 else 0) + negative_count plan set chosen) (apart p v own) in (
      and_from (is_value plan p v) (are_values plan set chosen) (or_left (is_among (values_in plan Positive p) v) (is_negative plan p v) own) exist,
      omega (arith, none, few),
    )

positive_choice : (plan : PlanView) (set chosen : List ℕ) → AreApart plan → all_among (values_in plan Positive) set chosen ≡ true
    → (are_values plan set chosen ≡ true) × (negative_count plan set chosen ≤ 0)
positive_choice plan [] [] apart among = (refl, omega arith)
positive_choice plan [] (v ∷ chosen) apart among = absurd (false≢true among)
positive_choice plan (p ∷ set) [] apart among = absurd (false≢true among)
positive_choice plan (p ∷ set) (v ∷ chosen) apart among =
    let parts = and_parts (is_among (values_in plan Positive p) v) (all_among (values_in plan Positive) set chosen) among in
    let later = positive_choice plan set chosen apart parts.1 in
    positive_more plan p v 0 0 set chosen apart parts.0 later.0 later.1

negative_choice : (plan : PlanView) (q v : ℕ) (set chosen : List ℕ) (p e : ℕ) → AreApart plan → is_negative plan q v ≡ true → RisesFrom p e set
    → all_among (values_in plan (Negative q v)) set chosen ≡ true → (are_values plan set chosen ≡ true) × (negative_count plan set chosen ≤ 1)
negative_choice plan q v [] [] p e apart sign rises among = (refl, omega arith)
negative_choice plan q v [] (w ∷ chosen) p e apart sign rises among = absurd (false≢true among)
negative_choice plan q v (r ∷ set) [] p e apart sign rises among = absurd (false≢true among)
negative_choice plan q v (r ∷ set) (w ∷ chosen) p e apart sign rises among =
    let parts = and_parts (is_among (values_in plan (Negative q v) r) w) (all_among (values_in plan (Negative q v)) set chosen) among in
    elim (cases_eq r q) [
      | inl here ↦
          let own : v ≡ w = single v w (subst (λ b. is_among (if b then v ∷ [] else values_in plan Positive r) w ≡ true) (eq-eqb r q here) parts.0) in
          let negative : is_negative plan r w ≡ true = ap (λ k. is_negative plan k w) here ∙ ap (is_negative plan q) (sym own) ∙ sign in
          let above = subst (λ k. RisesFrom (k + 1) e set) here rises.2 in
          let later = positive_choice plan set chosen apart (all_among_above plan q v set chosen e above ∙ parts.1) in
          let one : negative_count plan (r ∷ set) (w ∷ chosen) ≡ 1 + negative_count plan set chosen =
          ap (λ (b : Bool). (if b then 1 else 0) + negative_count plan set chosen) negative in (
            and_from (is_value plan r w) (are_values plan set chosen) (or_right (is_among (values_in plan Positive r) w) (is_negative plan r w) negative)
                later.0,
            omega (arith, one, later.1),
          )
      | inr differs ↦
          let test : (r == q) ≡ false = grind (arith, nat_tests) in
          let own : is_among (values_in plan Positive r) w ≡ true = subst (λ b. is_among (if b then v ∷ [] else values_in plan Positive r) w ≡ true)
          test parts.0 in
          let later = negative_choice plan q v set chosen (r + 1) e apart sign rises.2 parts.1 in
          positive_more plan r w 0 1 set chosen apart own later.0 later.1
    ]
  where
    single : (v w : ℕ) → is_among (v ∷ []) w ≡ true → v ≡ w
    single v w among = eqb-true v w (sym (or-false (v == w)) ∙ among)

-- the values at a rank of a set of a model's plan
pub choice_at : (m : ModelView) (plan : PlanView) (set chosen : List ℕ) (rank e : ℕ) → plan ≡ plan_of m → RisesFrom 0 e set
    → slice_get (tuple_lists plan set) rank ≡ Some chosen → IsChoice plan set chosen
choice_at m plan set chosen rank e same rises here =
    elim (of_append (value_lists (values_in plan Positive) set) (flat_map (negative_lists plan set) set) chosen
    (has_place (tuple_lists plan set) rank chosen here)) [
      | inl positive ↦
          let is = positive_choice plan set chosen apart (of_lists (values_in plan Positive) set chosen positive) in
          record { exist = is.0; few = omega (arith, is.1) }
      | inr negative ↦
          let member = of_flat (negative_lists plan set) set chosen negative in
          let value = of_flat (λ v. value_lists (values_in plan (Negative member.0 v)) set) (negatives_of plan member.0) chosen member.2 in
          let is = negative_choice plan member.0 value.0 set chosen 0 e apart (among_has (negatives_of plan member.0) value.0 value.1) rises
          (of_lists (values_in plan (Negative member.0 value.0)) set chosen value.2) in
          record { exist = is.0; few = is.1 }
    ]
  where
    apart : AreApart plan
    apart = subst AreApart (sym same) (apart_of m)
