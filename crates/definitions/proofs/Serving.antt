-- Which rows serve a tuple with at most one negative value.
use Rattle.std.proofs.Common.{◌≡◌, ℕ, ◌<◌, ◌≤◌, true, false, ◌&&◌, not, List, [], ◌∷◌, map, length, Option, inl, inr, zero-add, ◌∙◌, sym, ap, subst, refl, arith}
use Rattle.std.specs.Prelude.{◌==◌, nat_lt, nat_le}
use Rattle.std.specs.List.{list_all}
use Rattle.std.proofs.lemmas.List.FromFn.{length-map-range_with_len, get_or-map-range_with_len}
use Rattle.std.proofs.lemmas.Bool.{false_from_ne_true, cases_eq, and_parts, and_from, not_from_false, eqb-true, ltb-true, leb-true}
use Rattle.cov_model.specs.declared.slice.Slice.TheVariants.{Negative}
use Rattle.cov_model.specs.believed.Sound.{ModelView, param_at}
use Rattle.cov_model.specs.believed.Rows.{contains, is_assigned, value_in}
use Rattle.cov_model.specs.believed.Meaning.{value_at}
use Rattle.cov_model.specs.believed.Valid.{is_row, is_valid, has_value, negatives, param_numbers, serves}
use Rattle.cov_model.specs.believed.Slices.{value_numbers, slice_values, slice_by, slice_of}
use Rattle.cov_model.proofs.CellLemmas.{contains-value_in, length-slice_values, slice_values-positive, slice_values-own, slice_values-other}
use Rattle.definitions.specs.believed.Completion.{completions, meets_rules, has_slice, is_extendable}
use Rattle.definitions.specs.believed.Figures.{all_rows, is_served}
use Rattle.definitions.specs.Laws.{SlicesServe, ServableAreExtendable}
use Rattle.definitions.proofs.Members.{Has, has_contained, contains_member, has_filter, all_pass, passes_all, any_member, of_any, same_answer}
use Rattle.definitions.proofs.Choices.{IsChoice, choice_from, choice_completes, completion_is}
use Rattle.definitions.proofs.SliceLemmas.{values_at, is_negative, has_numbers, has_params, IsNegativeAt, of_negatives}
use Rattle.definitions.proofs.SliceLemmas.{has_negatives, IsFixedBy, negative_of, slice_of_is, row_in_slice, choice_is_valid}

-- what a row is that serves a tuple
pub record Serves (m : ModelView) (row tuple : List (Option ℕ)) : Type 0 where
  pub long : length row ≡ length m.params
  pub has : (p : ℕ) → p < length m.params → has_value m row p ≡ true
  pub meets : meets_rules m row ≡ true
  pub contained : contains row tuple ≡ true
  pub negatives_in : (p : ℕ) → Has (negatives m row) p → is_assigned tuple p ≡ true

pub of_serves : (m : ModelView) (row tuple : List (Option ℕ)) → serves m row tuple ≡ true → Serves m row tuple
of_serves m row tuple holds =
    let whole = and_parts (is_valid m row && contains row tuple) (list_all (is_assigned tuple) (negatives m row)) holds in
    let valid = and_parts (is_valid m row) (contains row tuple) whole.0 in
    let first = and_parts (is_row m row && meets_rules m row) (nat_le (length (negatives m row)) 1) valid.0 in
    let meets = and_parts (is_row m row) (meets_rules m row) first.0 in
    let is = and_parts (length row == length m.params) (list_all (has_value m row) (param_numbers m)) meets.0 in
    record {
      long = eqb-true (length row) (length m.params) is.0;
      has = λ p within. passes_all (has_value m row) (param_numbers m) p is.1 (has_params m p within);
      meets = meets.1;
      contained = valid.1;
      negatives_in = λ p has. passes_all (is_assigned tuple) (negatives m row) p whole.1 has;
    }

pub record HasValue (m : ModelView) (row : List (Option ℕ)) (p : ℕ) : Type 0 where
  pub assigned : is_assigned row p ≡ true
  pub exists : value_in row p < length (param_at m.params p).values

pub value_of : (m : ModelView) (row : List (Option ℕ)) (p : ℕ) → has_value m row p ≡ true → HasValue m row p
value_of m row p has =
    let parts = and_parts (is_assigned row p) (nat_lt (value_in row p) (length (param_at m.params p).values)) has in
    record { assigned = parts.0; exists = ltb-true (value_in row p) (length (param_at m.params p).values) parts.1 }

-- its negative values are the tuple's
shared_negative : (m : ModelView) (row tuple : List (Option ℕ)) (p : ℕ) → Serves m row tuple → p < length m.params → is_negative m p (value_in row p) ≡ true
    → Has (negatives m tuple) p
shared_negative m row tuple p is within negative =
    let own = value_of m row p (is.has p within) in
    let assigned : is_assigned tuple p ≡ true = is.negatives_in p
    (has_negatives m row p (record { within = within; assigned = own.assigned; negative = negative })) in
    let same : value_in row p ≡ value_in tuple p = contains-value_in row tuple p is.contained assigned in
    has_negatives m tuple p (record { within = within; assigned = assigned; negative = ap (is_negative m p) (sym same) ∙ negative })

-- so each of its values is one of the tuple's slice
served_value : (m : ModelView) (row tuple : List (Option ℕ)) (p : ℕ) (ps : List ℕ) → negatives m tuple ≡ ps → length ps ≤ 1 → Serves m row tuple
    → p < length m.params
    → Has (values_at m (slice_by tuple ps) p) (value_in row p)
served_value m row tuple p [] are few is within =
    let own = value_of m row p (is.has p within) in
    let plain : is_negative m p (value_in row p) ≡ false =
    false_from_ne_true (is_negative m p (value_in row p)) (λ negative. subst (λ ps. Has ps p) are (shared_negative m row tuple p is within negative)) in
    subst (λ vs. Has vs (value_in row p)) (sym (slice_values-positive m p within))
    (has_filter (λ v. not (value_at m p v).negative) (value_numbers m p) (value_in row p) (has_numbers m p (value_in row p) own.exists) (not_from_false (is_negative m p (value_in row p)) plain))
served_value m row tuple p (q ∷ []) are few is within = elim (cases_eq p q) [ inl same ↦ here same | inr apart ↦ there apart ]
  where
    fixed : IsNegativeAt m tuple q
    fixed = of_negatives m tuple q (subst (λ ps. Has ps q) (sym are) (inl refl))

    here : p ≡ q → Has (values_at m (Negative q (value_in tuple q)) p) (value_in row p)
    here same =
        let value : value_in row q ≡ value_in tuple q = contains-value_in row tuple q is.contained fixed.assigned in
        subst (λ r. Has (values_at m (Negative q (value_in tuple q)) r) (value_in row r)) (sym same)
        (subst (λ vs. Has vs (value_in row q)) (sym (slice_values-own m q (value_in tuple q) fixed.within)) (inl (sym value)))

    there : (p ≡ q → ⊥) → Has (values_at m (Negative q (value_in tuple q)) p) (value_in row p)
    there apart =
        let own = value_of m row p (is.has p within) in
        let plain : is_negative m p (value_in row p) ≡ false =
        false_from_ne_true (is_negative m p (value_in row p))
        (λ negative. only (subst (λ ps. Has ps p) are (shared_negative m row tuple p is within negative)) apart) in
        subst (λ vs. Has vs (value_in row p)) (sym (slice_values-other m q (value_in tuple q) p within apart))
        (has_filter (λ v. not (value_at m p v).negative) (value_numbers m p) (value_in row p) (has_numbers m p (value_in row p) own.exists) (not_from_false (is_negative m p (value_in row p)) plain))
      where
        only : Has (q ∷ []) p → (p ≡ q → ⊥) → ⊥
        only (inl same) apart = apart (sym same)
        only (inr none) apart = none
served_value m row tuple p (q ∷ r ∷ ps) are few is within = absurd (omega arith)

pub served_is_choice : (m : ModelView) (row tuple : List (Option ℕ)) → has_slice m tuple ≡ true → Serves m row tuple
    → IsChoice (slice_values m (slice_of m tuple)) row
served_is_choice m row tuple few is =
    choice_from (slice_values m (slice_of m tuple)) row (omega (arith, is.long, length-slice_values m (slice_of m tuple))) (λ p within.
    let inside : p < length m.params = omega (arith, within, length-slice_values m (slice_of m tuple)) in
    let own = value_of m row p (is.has p inside) in
    record {
      assigned = own.assigned;
      listed = served_value m row tuple p (negatives m tuple) refl (leb-true (length (negatives m tuple)) 1 few) is inside;
    })

-- and a row of the slice that contains the tuple serves it
pub choice_serves : (m : ModelView) (row tuple : List (Option ℕ)) → IsChoice (slice_values m (slice_of m tuple)) row → contains row tuple ≡ true
    → meets_rules m row ≡ true
    → serves m row tuple ≡ true
choice_serves m row tuple choice contained meets =
    let slice = slice_of m tuple in
    let is = slice_of_is m tuple in
    and_from (is_valid m row && contains row tuple) (list_all (is_assigned tuple) (negatives m row))
    (and_from (is_valid m row) (contains row tuple) (choice_is_valid m slice row is choice meets) contained)
    (all_pass (is_assigned tuple) (negatives m row) (λ p has. assigned (negatives m tuple) (of_negatives m tuple) p (negative_of m slice row p (row_in_slice m slice row is choice) has)))
  where
    assigned : (ps : List ℕ) → ((p : ℕ) → Has ps p → IsNegativeAt m tuple p) → (p : ℕ) → IsFixedBy (slice_by tuple ps) p → is_assigned tuple p ≡ true
    assigned [] each p fixed = absurd fixed
    assigned (q ∷ ps) each p fixed = subst (λ r. is_assigned tuple r ≡ true) (sym fixed) (each q (inl refl)).assigned

pub slices_serve : SlicesServe
slices_serve m row tuple sound few = (
  λ holds.
      let is = of_serves m row tuple holds in (
        contains_member (completions (slice_values m (slice_of m tuple)) tuple) row
            (choice_completes (slice_values m (slice_of m tuple)) tuple row (served_is_choice m row tuple few is) is.contained),
        is.meets,
      ),
  λ both.
      let is = completion_is (slice_values m (slice_of m tuple)) tuple row (has_contained (completions (slice_values m (slice_of m tuple)) tuple) row both.0) in
      choice_serves m row tuple is.choice is.contained both.1,
)

-- a row of the model is one of all rows
serving_is_row : (m : ModelView) (row tuple : List (Option ℕ)) → Serves m row tuple → Has (all_rows m) row
serving_is_row m row tuple is =
    let lists = map (value_numbers m) (param_numbers m) in
    let long = length-map-range_with_len (value_numbers m) 0 (length m.params) in
    choice_completes lists [] row (choice_from lists row (omega (arith, is.long, long)) (λ p within.
    let inside : p < length m.params = omega (arith, within, long) in
    let own = value_of m row p (is.has p inside) in
    record {
      assigned = own.assigned;
      listed = subst (λ vs. Has vs (value_in row p)) (sym (get_or-map-range_with_len (value_numbers m) 0 (length m.params) p p [] inside (zero-add p))) (has_numbers m p (value_in row p) own.exists);
    })) refl

-- a row that serves a tuple shows it extendable
pub served_extends : (m : ModelView) (row tuple : List (Option ℕ)) → has_slice m tuple ≡ true → serves m row tuple ≡ true
    → is_extendable m (slice_of m tuple) tuple ≡ true
served_extends m row tuple few holds =
    let is = of_serves m row tuple holds in
    any_member (meets_rules m) (completions (slice_values m (slice_of m tuple)) tuple) row
    (choice_completes (slice_values m (slice_of m tuple)) tuple row (served_is_choice m row tuple few is) is.contained) is.meets

pub servable_are_extendable : ServableAreExtendable
servable_are_extendable m tuple sound few =
    same_answer (is_served m (all_rows m) tuple) (is_extendable m (slice_of m tuple) tuple)
    (λ served.
    let found = of_any (λ row. serves m row tuple) (all_rows m) served in
    served_extends m found.0 tuple few found.2)
    (λ extends.
    let found = of_any (meets_rules m) (completions (slice_values m (slice_of m tuple)) tuple) extends in
    let is = completion_is (slice_values m (slice_of m tuple)) tuple found.0 found.1 in
    let holds = choice_serves m found.0 tuple is.choice is.contained found.2 in
    any_member (λ row. serves m row tuple) (all_rows m) found.0 (serving_is_row m found.0 tuple (of_serves m found.0 tuple holds)) holds)
