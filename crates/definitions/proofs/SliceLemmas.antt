-- The values of a slice, and the partial rows that belong to it.
use Rattle.std.proofs.Common.{◌≡◌, ℕ, ◌<◌, Bool, true, ◌&&◌, not, List, [], ◌∷◌, map, length, get_or, Option, inl, inr, ◌∙◌, sym, ap, subst, refl, arith, lt-ltb}
use Rattle.std.specs.Prelude.{◌==◌, nat_lt, nat_le}
use Rattle.std.specs.List.{list_all}
use Rattle.std.proofs.lemmas.Bool.{false≢true, cases_eq, cases_lt, and_parts, and_from, not-true, eq-eqb}
use Rattle.std.proofs.lemmas.List.{get_or_past}
use Rattle.cov_model.specs.declared.slice.Slice.{Slice}
use Rattle.cov_model.specs.declared.slice.Slice.TheVariants.{Positive, Negative}
use Rattle.cov_model.specs.believed.Sound.{ModelView, param_at}
use Rattle.cov_model.specs.believed.Rows.{is_assigned, value_in}
use Rattle.cov_model.specs.believed.Meaning.{value_at, given_value, no_value}
use Rattle.cov_model.specs.believed.Valid.{is_row, is_valid, has_value, negatives, param_numbers}
use Rattle.cov_model.specs.believed.Slices.{value_numbers, negative_values, slices, slice_values, slice_by, slice_of}
use Rattle.cov_model.proofs.CellLemmas.{length-slice_values, slice_values-positive, slice_values-own, slice_values-other}
use Rattle.definitions.specs.believed.Completion.{meets_rules, has_slice}
use Rattle.definitions.proofs.Members.{Has, has_map, of_map, has_flat, of_flat, has_filter, of_filter, all_pass, has_range, of_range}
use Rattle.definitions.proofs.Distinct.{NoRepeats, no_members, one_member, repeats_filter, repeats_range}
use Rattle.definitions.proofs.Choices.{IsChoice, choice_at, choice_length}
pub use Rattle.cov_model.proofs.CellLemmas.{length-slice_values as slice_length, slice_values-positive as values_positive}

-- the values of a parameter in a slice
abbrev pub values_at : ModelView → Slice → ℕ → List ℕ
values_at m slice p = get_or (slice_values m slice) p []

-- the value of a number is negative, or isn't
abbrev pub is_negative : ModelView → ℕ → ℕ → Bool
is_negative m p v = (value_at m p v).negative

pub of_numbers : (m : ModelView) (p v : ℕ) → Has (value_numbers m p) v → v < length (param_at m.params p).values
of_numbers m p v has = omega (arith, (of_range 0 (length (param_at m.params p).values) v has).1)

pub has_numbers : (m : ModelView) (p v : ℕ) → v < length (param_at m.params p).values → Has (value_numbers m p) v
has_numbers m p v within = has_range 0 (length (param_at m.params p).values) v (omega arith) (omega (arith, within))

pub of_params : (m : ModelView) (p : ℕ) → Has (param_numbers m) p → p < length m.params
of_params m p has = omega (arith, (of_range 0 (length m.params) p has).1)

pub has_params : (m : ModelView) (p : ℕ) → p < length m.params → Has (param_numbers m) p
has_params m p within = has_range 0 (length m.params) p (omega arith) (omega (arith, within))

pub negative_exists : (m : ModelView) (p v : ℕ) → is_negative m p v ≡ true → v < length (param_at m.params p).values
negative_exists m p v negative =
    elim (cases_lt v (length (param_at m.params p).values)) [
      | inl within ↦ within
      | inr past ↦ absurd (false≢true (sym (ap (λ value. value.negative) (get_or_past (param_at m.params p).values v no_value past)) ∙ negative))
    ]

-- the slice is one of the model's
abbrev pub IsSlice : ModelView → Slice → Type 0
IsSlice m Positive = Unit {0}
IsSlice m (Negative q v) = (q < length m.params) × (is_negative m q v ≡ true)

pub is_slice : (m : ModelView) (slice : Slice) → Has (slices m) slice → IsSlice m slice
is_slice m slice (inl first) = subst (IsSlice m) first tt
is_slice m slice (inr later) =
    let by_param = of_flat (λ p. map (λ v. Negative p v) (negative_values m p)) (param_numbers m) slice later in
    let by_value = of_map (λ v. Negative by_param.0 v) (negative_values m by_param.0) slice by_param.2 in
    let negative = of_filter (λ v. (value_at m by_param.0 v).negative) (value_numbers m by_param.0) by_value.0 by_value.1 in
    subst (IsSlice m) by_value.2 (of_params m by_param.0 by_param.1, negative.1)

pub has_slices : (m : ModelView) (slice : Slice) → IsSlice m slice → Has (slices m) slice
has_slices m Positive is = inl refl
has_slices m (Negative q v) is =
    inr (has_flat (λ p. map (λ v. Negative p v) (negative_values m p)) (param_numbers m) q (Negative q v) (has_params m q is.0)
    (has_map (λ v. Negative q v) (negative_values m q) v
    (has_filter (λ v. (value_at m q v).negative) (value_numbers m q) v (has_numbers m q v (negative_exists m q v is.1)) is.1)))

-- the parameter is the slice's fixed one
abbrev pub IsFixedBy : Slice → ℕ → Type 0
IsFixedBy Positive p = ⊥
IsFixedBy (Negative q v) p = p ≡ q

-- a negative value in the slice is that of the fixed parameter
pub negative_is_fixed : (m : ModelView) (slice : Slice) (p v : ℕ) → p < length m.params → Has (values_at m slice p) v → is_negative m p v ≡ true
    → IsFixedBy slice p
negative_is_fixed m Positive p v within has negative =
    let kept = of_filter (λ v. not (value_at m p v).negative) (value_numbers m p) v (subst (λ vs. Has vs v) (slice_values-positive m p within) has) in
    false≢true (sym (not-true (is_negative m p v) kept.1) ∙ negative)
negative_is_fixed m (Negative q w) p v within has negative =
    elim (cases_eq p q) [
      | inl same ↦ same
      | inr apart ↦
          let kept = of_filter (λ v. not (value_at m p v).negative) (value_numbers m p) v
          (subst (λ vs. Has vs v) (slice_values-other m q w p within apart) has) in
          absurd (false≢true (sym (not-true (is_negative m p v) kept.1) ∙ negative))
    ]

-- each value of the slice exists
pub value_exists : (m : ModelView) (slice : Slice) (p v : ℕ) → IsSlice m slice → p < length m.params → Has (values_at m slice p) v
    → v < length (param_at m.params p).values
value_exists m Positive p v is within has =
    let kept = of_filter (λ v. not (value_at m p v).negative) (value_numbers m p) v (subst (λ vs. Has vs v) (slice_values-positive m p within) has) in
    of_numbers m p v kept.0
value_exists m (Negative q w) p v is within has =
    elim (cases_eq p q) [
      | inl same ↦ own (subst (λ vs. Has vs v) (ap (λ r. values_at m (Negative q w) r) same ∙ slice_values-own m q w is.0) has) same
      | inr apart ↦
          let kept = of_filter (λ v. not (value_at m p v).negative) (value_numbers m p) v
          (subst (λ vs. Has vs v) (slice_values-other m q w p within apart) has) in
          of_numbers m p v kept.0
    ]
  where
    own : Has (w ∷ []) v → p ≡ q → v < length (param_at m.params p).values
    own (inl is_value) same =
        subst (λ r. v < length (param_at m.params r).values) (sym same)
        (subst (λ u. u < length (param_at m.params q).values) is_value (negative_exists m q w is.1))
    own (inr none) same = absurd none

-- the partial row belongs to the slice: its values are of the slice, and the fixed parameter has one
abbrev pub HasFixed : Slice → List (Option ℕ) → Type 0
HasFixed Positive cells = Unit {0}
HasFixed (Negative q v) cells = is_assigned cells q ≡ true

pub record InSlice (m : ModelView) (slice : Slice) (cells : List (Option ℕ)) : Type 0 where
  pub values : (p : ℕ) → p < length m.params → is_assigned cells p ≡ true → Has (values_at m slice p) (value_in cells p)
  pub fixed : HasFixed slice cells

pub record IsNegativeAt (m : ModelView) (cells : List (Option ℕ)) (p : ℕ) : Type 0 where
  pub within : p < length m.params
  pub assigned : is_assigned cells p ≡ true
  pub negative : is_negative m p (value_in cells p) ≡ true

pub of_negatives : (m : ModelView) (cells : List (Option ℕ)) (p : ℕ) → Has (negatives m cells) p → IsNegativeAt m cells p
of_negatives m cells p has =
    let kept = of_filter (λ p. is_assigned cells p && (given_value m cells p).negative) (param_numbers m) p has in
    let parts = and_parts (is_assigned cells p) (is_negative m p (value_in cells p)) kept.1 in
    record { within = of_params m p kept.0; assigned = parts.0; negative = parts.1 }

pub has_negatives : (m : ModelView) (cells : List (Option ℕ)) (p : ℕ) → IsNegativeAt m cells p → Has (negatives m cells) p
has_negatives m cells p is =
    has_filter (λ p. is_assigned cells p && (given_value m cells p).negative) (param_numbers m) p (has_params m p is.within)
    (and_from (is_assigned cells p) (is_negative m p (value_in cells p)) is.assigned is.negative)

pub negative_of : (m : ModelView) (slice : Slice) (cells : List (Option ℕ)) (p : ℕ) → InSlice m slice cells → Has (negatives m cells) p → IsFixedBy slice p
negative_of m slice cells p belongs has =
    let is = of_negatives m cells p has in
    negative_is_fixed m slice p (value_in cells p) is.within (belongs.values p is.within is.assigned) is.negative

pub negatives_once : (m : ModelView) (cells : List (Option ℕ)) → NoRepeats (negatives m cells)
negatives_once m cells =
    repeats_filter (λ p. is_assigned cells p && (given_value m cells p).negative) (param_numbers m) (repeats_range 0 (length m.params))

-- then the slice is its slice
pub record IsSliceOf (m : ModelView) (slice : Slice) (cells : List (Option ℕ)) : Type 0 where
  pub is : slice_of m cells ≡ slice
  pub few : has_slice m cells ≡ true

pub slice_is : (m : ModelView) (slice : Slice) (cells : List (Option ℕ)) → IsSlice m slice → InSlice m slice cells → IsSliceOf m slice cells
slice_is m Positive cells is belongs =
    let none : negatives m cells ≡ [] = no_members (negatives m cells) (λ p has. negative_of m Positive cells p belongs has) in
    record { is = ap (slice_by cells) none; few = ap (λ ps. nat_le (length ps) 1) none }
slice_is m (Negative q v) cells is belongs =
    let value : value_in cells q ≡ v = own (subst (λ vs. Has vs (value_in cells q)) (slice_values-own m q v is.0) (belongs.values q is.0 belongs.fixed)) in
    let here : IsNegativeAt m cells q = record { within = is.0; assigned = belongs.fixed; negative = ap (is_negative m q) value ∙ is.1 } in
    let one : negatives m cells ≡ q ∷ [] =
    one_member q (negatives m cells) (negatives_once m cells) (has_negatives m cells q here) (λ p has. negative_of m (Negative q v) cells p belongs has) in
    record { is = ap (slice_by cells) one ∙ ap (λ u. Negative q u) value; few = ap (λ ps. nat_le (length ps) 1) one }
  where
    own : Has (v ∷ []) (value_in cells q) → value_in cells q ≡ v
    own (inl same) = sym same
    own (inr none) = absurd none

-- the slice of a partial row with at most one negative value is one of the model's
pub slice_of_is : (m : ModelView) (cells : List (Option ℕ)) → IsSlice m (slice_of m cells)
slice_of_is m cells = at (negatives m cells) (of_negatives m cells)
  where
    at : (ps : List ℕ) → ((p : ℕ) → Has ps p → IsNegativeAt m cells p) → IsSlice m (slice_by cells ps)
    at [] each = tt
    at (p ∷ ps) each = let first = each p (inl refl) in (first.within, first.negative)

-- a choice of the slice's values is a row of the model that belongs to the slice
pub row_in_slice : (m : ModelView) (slice : Slice) (row : List (Option ℕ)) → IsSlice m slice → IsChoice (slice_values m slice) row → InSlice m slice row
row_in_slice m slice row is choice = record {
  values = λ p within assigned. (choice_at (slice_values m slice) row p choice (omega (arith, within, length-slice_values m slice))).listed;
  fixed = fixed slice is choice;
}
  where
    fixed : (slice : Slice) → IsSlice m slice → IsChoice (slice_values m slice) row → HasFixed slice row
    fixed Positive is choice = tt
    fixed (Negative q v) is choice =
        (choice_at (slice_values m (Negative q v)) row q choice (omega (arith, is.0, length-slice_values m (Negative q v)))).assigned

pub choice_is_row : (m : ModelView) (slice : Slice) (row : List (Option ℕ)) → IsSlice m slice → IsChoice (slice_values m slice) row → is_row m row ≡ true
choice_is_row m slice row is choice =
    let long : length row ≡ length m.params = choice_length (slice_values m slice) row choice ∙ length-slice_values m slice in
    and_from (length row == length m.params) (list_all (has_value m row) (param_numbers m)) (eq-eqb (length row) (length m.params) long)
    (all_pass (has_value m row) (param_numbers m) (λ p has.
    let within = of_params m p has in
    let own = choice_at (slice_values m slice) row p choice (omega (arith, within, length-slice_values m slice)) in
    and_from (is_assigned row p) (nat_lt (value_in row p) (length (param_at m.params p).values)) own.assigned
    (lt-ltb (value_in row p) (length (param_at m.params p).values) (value_exists m slice p (value_in row p) is within own.listed))))

-- and valid where it meets every constraint
pub choice_is_valid : (m : ModelView) (slice : Slice) (row : List (Option ℕ)) → IsSlice m slice → IsChoice (slice_values m slice) row
    → meets_rules m row ≡ true → is_valid m row ≡ true
choice_is_valid m slice row is choice meets =
    let of = slice_is m slice row is (row_in_slice m slice row is choice) in
    and_from (is_row m row && meets_rules m row) (nat_le (length (negatives m row)) 1)
    (and_from (is_row m row) (meets_rules m row) (choice_is_row m slice row is choice) meets) of.few
