-- Rows whose cells are tested one by one are of the positive slice.
use Rattle.std.proofs.Common.{◌≡◌, ℕ, ◌<◌, true, false, not, List, length, get_or, Option, Some, None, is_some, unwrap_or, sym, ap, subst}
use Rattle.std.proofs.lemmas.Bool.{false≢true}
use Rattle.cov_model.specs.declared.slice.Slice.TheVariants.{Positive}
use Rattle.cov_model.specs.believed.Sound.{ModelView, param_at}
use Rattle.cov_model.specs.believed.Meaning.{value_at}
use Rattle.cov_model.specs.believed.Rows.{is_assigned, value_in}
use Rattle.cov_model.specs.believed.Slices.{value_numbers}
use Rattle.definitions.specs.SliceRows.{IsOfSlice}
use Rattle.definitions.specs.believed.Demand.{is_among}
use Rattle.definitions.proofs.Members.{has_filter, among_has}
use Rattle.definitions.proofs.SliceLemmas.{values_at, values_positive, has_numbers}
use Rattle.test_models.specs.Rows.{IsPositiveCell}
use Rattle.cov_model.proofs.CellLemmas.{assigned_within}

-- a value that exists and isn't negative is one of the positive slice
listed_value : (m : ModelView) (p v : ℕ) → p < length m.params → v < length (param_at m.params p).values
    → (value_at m p v).negative ≡ false → is_among (values_at m Positive p) v ≡ true
listed_value m p v within exists positive =
    subst (λ (values : List ℕ). is_among values v ≡ true) (sym (values_positive m p within))
    (among_has _ v (has_filter (λ w. not (value_at m p w).negative) (value_numbers m p) v (has_numbers m p v exists) (ap not positive)))

-- what is known of a cell that has a value
given_value : (m : ModelView) (p : ℕ) (cell : Option ℕ) → is_some cell ≡ true → IsPositiveCell m p cell
    → (unwrap_or cell 0 < length (param_at m.params p).values) × ((value_at m p (unwrap_or cell 0)).negative ≡ false)
given_value m p None assigned is = absurd (false≢true assigned)
given_value m p (Some v) assigned is = is

pub positive_row : (m : ModelView) (cells : List (Option ℕ)) → length cells ≡ length m.params
    → ((p : ℕ) → p < length m.params → IsPositiveCell m p (get_or cells p None)) → IsOfSlice m Positive cells
positive_row m cells long each =
    record {
      fits = record { as_long = long; exist = λ p assigned. (given p assigned).0 };
      listed = λ p assigned. listed_value m p (value_in cells p) (inside p assigned) (given p assigned).0 (given p assigned).1;
    }
  where
    inside : (p : ℕ) → is_assigned cells p ≡ true → p < length m.params
    inside p assigned = subst (λ n. p < n) long (assigned_within cells p assigned)

    given : (p : ℕ) → is_assigned cells p ≡ true
        → (value_in cells p < length (param_at m.params p).values) × ((value_at m p (value_in cells p)).negative ≡ false)
    given p assigned = given_value m p (get_or cells p None) assigned (each p (inside p assigned))
