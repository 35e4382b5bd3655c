-- In which slices tests are: a test contains a partial row exactly if it is extendable in one of the slices.
use Rattle.std.proofs.Common.{◌≡◌, ◌≢◌, ℕ, ◌<◌, true, false, ◌||◌, ◌&&◌, List, [], map, length, get_or, Option, Some, None, is_some, unwrap_or, inl, inr, zero-add, refl, ap, sym, subst, ◌∙◌, arith}
use Rattle.std.specs.Prelude.{◌==◌, nat_le}
use Rattle.std.specs.List.{list_all}
use Rattle.std.proofs.lemmas.Bool.{and_parts, and_from, or_left, or_right, or_cases, eqb-true, false_from_ne_true, false≢true}
use Rattle.std.proofs.lemmas.List.FromFn.{length-map-range_with_len, get_or-map-range_with_len}
use Rattle.std.proofs.Math.Bool.{or-false}
use Rattle.cov_model.specs.declared.slice.Slice.{Slice}
use Rattle.cov_model.specs.declared.slice.Slice.TheVariants.{Positive, Negative}
use Rattle.cov_model.specs.believed.Sound.{ModelView}
use Rattle.cov_model.specs.Fits.{FitsModel}
use Rattle.cov_model.specs.believed.Rows.{contains, is_assigned, value_in}
use Rattle.cov_model.specs.believed.Meaning.{value_at}
use Rattle.cov_model.specs.believed.Valid.{is_row, is_valid, has_value, negatives, param_numbers}
use Rattle.cov_model.specs.believed.Slices.{value_numbers, slice_values, slice_of}
use Rattle.cov_model.proofs.CellLemmas.{assigned_within, contains-refl, contains-value_in, length-slice_values}
use Rattle.definitions.specs.believed.Completion.{completions, first_completion, has_slice, is_extendable, meets_rules}
use Rattle.definitions.specs.believed.Demand.{is_among}
use Rattle.definitions.specs.believed.Figures.{all_rows}
use Rattle.definitions.specs.SliceRows.{IsOfSlice, IsSliceOf}
use Rattle.definitions.proofs.Members.{Has, all_pass, among_has, any_member, of_any, passes_all, same_answer}
use Rattle.definitions.proofs.Choices.{choice_at, choice_from, choice_completes, completion_is}
use Rattle.definitions.proofs.SliceLemmas.{IsSlice, choice_is_row, choice_is_valid, has_numbers, has_params, negative_exists, of_negatives, of_params, row_in_slice, slice_is, slice_of_is}
use Rattle.definitions.proofs.Serving.{of_serves, served_is_choice, value_of}
use Rattle.definitions.proofs.Finishing.{completes}
use Rattle.definitions.proofs.SliceValues.{slice_exists}
use Rattle.model_lint.specs.Changes.{IsTestOf}
use Rattle.model_lint.specs.Seeking.{in_negative, in_slice_of, in_some_negative, is_cell_of}
use Rattle.model_lint.specs.believed.Tests.{has_test}

-- a row of the model is one of all rows
pub row_listed : (m : ModelView) (row : List (Option ℕ)) → is_row m row ≡ true → Has (all_rows m) row
row_listed m row is =
    let parts = and_parts (length row == length m.params) (list_all (has_value m row) (param_numbers m)) is in
    let lists = map (value_numbers m) (param_numbers m) in
    let long = length-map-range_with_len (value_numbers m) 0 (length m.params) in
    choice_completes lists [] row (choice_from lists row (omega (arith, eqb-true (length row) (length m.params) parts.0, long)) (λ p within.
    let inside : p < length m.params = omega (arith, within, long) in
    let own = value_of m row p (passes_all (has_value m row) (param_numbers m) p parts.1 (has_params m p inside)) in
    record {
      assigned = own.assigned;
      listed = subst (λ vs. Has vs (value_in row p)) (sym (get_or-map-range_with_len (value_numbers m) 0 (length m.params) p p [] inside (zero-add p))) (has_numbers m p (value_in row p) own.exists);
    })) refl

-- what a valid row is
pub record IsValidRow (m : ModelView) (test : List (Option ℕ)) : Type 0 where
  pub row : is_row m test ≡ true
  pub meets : meets_rules m test ≡ true
  pub few : has_slice m test ≡ true

pub valid_row : (m : ModelView) (row : List (Option ℕ)) → is_valid m row ≡ true → IsValidRow m row
valid_row m row valid =
    let parts = and_parts (is_row m row && meets_rules m row) (nat_le (length (negatives m row)) 1) valid in
    let first = and_parts (is_row m row) (meets_rules m row) parts.0 in
    record { row = first.0; meets = first.1; few = parts.1 }

-- a valid row is a test of its slice
own_slice : (m : ModelView) (row cells : List (Option ℕ)) → is_valid m row ≡ true → contains row cells ≡ true
    → is_extendable m (slice_of m row) cells ≡ true
own_slice m row cells valid contained =
    let is = valid_row m row valid in
    let serves = and_from (is_valid m row && contains row row) (list_all (is_assigned row) (negatives m row))
    (and_from (is_valid m row) (contains row row) valid (contains-refl row))
    (all_pass (is_assigned row) (negatives m row) (λ p has. (of_negatives m row p has).assigned)) in
    let choice = served_is_choice m row row is.few (of_serves m row row serves) in
    any_member (meets_rules m) (completions (slice_values m (slice_of m row)) cells) row
    (choice_completes (slice_values m (slice_of m row)) cells row choice contained) is.meets

-- what is extendable in a slice is in a test
pub slice_test : (m : ModelView) (slice : Slice) (cells : List (Option ℕ)) → IsSlice m slice → is_extendable m slice cells ≡ true → has_test m cells ≡ true
slice_test m slice cells is extends =
    let some = of_any (meets_rules m) (completions (slice_values m slice) cells) extends in
    let chosen = completion_is (slice_values m slice) cells some.0 some.1 in
    any_member (λ row. is_valid m row && contains row cells) (all_rows m) some.0 (row_listed m some.0 (choice_is_row m slice some.0 is chosen.choice))
    (and_from (is_valid m some.0) (contains some.0 cells) (choice_is_valid m slice some.0 is chosen.choice some.2) chosen.contained)

-- so tests are those of the slices
pub by_slices : (m : ModelView) (cells : List (Option ℕ)) → (is_extendable m Positive cells || in_some_negative m cells) ≡ has_test m cells
by_slices m cells = same_answer (is_extendable m Positive cells || in_some_negative m cells) (has_test m cells) to from
  where
    negative : in_some_negative m cells ≡ true → has_test m cells ≡ true
    negative some =
        let own = of_any (in_negative m cells) (param_numbers m) some in
        let value = of_any (in_slice_of m cells own.0) (value_numbers m own.0) own.2 in
        let parts = and_parts (value_at m own.0 value.0).negative (is_extendable m (Negative own.0 value.0) cells) value.2 in
        slice_test m (Negative own.0 value.0) cells (of_params m own.0 own.1, parts.0) parts.1

    to : (is_extendable m Positive cells || in_some_negative m cells) ≡ true → has_test m cells ≡ true
    to some =
        elim (or_cases (is_extendable m Positive cells) (in_some_negative m cells) some) [
          | inl here ↦ slice_test m Positive cells tt here
          | inr there ↦ negative there
        ]

    at : (slice : Slice) → IsSlice m slice → is_extendable m slice cells ≡ true → (is_extendable m Positive cells || in_some_negative m cells) ≡ true
    at Positive is extends = or_left (is_extendable m Positive cells) (in_some_negative m cells) extends
    at (Negative p v) is extends =
        or_right (is_extendable m Positive cells) (in_some_negative m cells)
        (any_member (in_negative m cells) (param_numbers m) p (has_params m p is.0)
        (any_member (in_slice_of m cells p) (value_numbers m p) v (has_numbers m p v (negative_exists m p v is.1))
        (and_from (value_at m p v).negative (is_extendable m (Negative p v) cells) is.1 extends)))

    from : has_test m cells ≡ true → (is_extendable m Positive cells || in_some_negative m cells) ≡ true
    from some =
        let row = of_any (λ row. is_valid m row && contains row cells) (all_rows m) some in
        let parts = and_parts (is_valid m row.0) (contains row.0 cells) row.2 in
        at (slice_of m row.0) (slice_of_is m row.0) (own_slice m row.0 cells parts.0 parts.1)

-- a partial row with a value that the slice hasn't isn't extendable there
pub cell_fails : (m : ModelView) (slice : Slice) (cells : List (Option ℕ)) (p : ℕ) → p < length m.params
    → is_cell_of m slice p (get_or cells p None) ≡ false → is_extendable m slice cells ≡ false
cell_fails m slice cells p within fails = at (get_or cells p None) refl fails
  where
    at : (cell : Option ℕ) → get_or cells p None ≡ cell → is_cell_of m slice p cell ≡ false → is_extendable m slice cells ≡ false
    at None is fails = absurd (false≢true (sym fails))
    at (Some v) is fails = false_from_ne_true (is_extendable m slice cells) (λ extends.
        let some = of_any (meets_rules m) (completions (slice_values m slice) cells) extends in
        let chosen = completion_is (slice_values m slice) cells some.0 some.1 in
        let own = choice_at (slice_values m slice) some.0 p chosen.choice (omega (arith, within, length-slice_values m slice)) in
        let same : value_in some.0 p ≡ v = contains-value_in some.0 cells p chosen.contained (ap is_some is) ∙ ap (λ (cell : Option ℕ). unwrap_or cell 0) is in
        false≢true (sym fails ∙ among_has (get_or (slice_values m slice) p []) v (subst (Has (get_or (slice_values m slice) p [])) same own.listed)))

-- and where the slice has each, the partial row is of it
pub cells_of_slice : (m : ModelView) (slice : Slice) (cells : List (Option ℕ)) → FitsModel m cells
    → ((p : ℕ) → p < length cells → is_cell_of m slice p (get_or cells p None) ≡ true) → IsOfSlice m slice cells
cells_of_slice m slice cells fits each = record { fits = fits; listed = λ p has. at p (get_or cells p None) has (each p (assigned_within cells p has)) }
  where
    at : (p : ℕ) (cell : Option ℕ) → is_some cell ≡ true → is_cell_of m slice p cell ≡ true
        → is_among (get_or (slice_values m slice) p []) (unwrap_or cell 0) ≡ true
    at p None has is = absurd (false≢true has)
    at p (Some v) has is = is

-- the first completion is a test of the slice
pub completed_test : (m : ModelView) (pref : List (List ℕ)) (slice : Slice) (cells row : List (Option ℕ)) → IsSliceOf m slice
    → Some row ≡ first_completion m pref slice cells → IsTestOf m slice cells row
completed_test m pref slice cells row is first =
    let done = completes m pref slice cells row (sym first) in
    let exists = slice_exists m slice is in
    record {
      own = (slice_is m slice row exists (row_in_slice m slice row exists done.is.choice)).is;
      valid = choice_is_valid m slice row exists done.is.choice done.is.meets;
      contained = done.contained;
    }

-- so the partial row of a test of the slice is extendable there
pub test_extends : (m : ModelView) (slice : Slice) (cells row : List (Option ℕ)) → is_valid m row ≡ true → contains row cells ≡ true → slice_of m row ≡ slice
    → is_extendable m slice cells ≡ true
test_extends m slice cells row valid contained own = subst (λ s. is_extendable m s cells ≡ true) own (own_slice m row cells valid contained)
