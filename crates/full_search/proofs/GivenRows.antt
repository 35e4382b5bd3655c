-- Rows that give each parameter a listed value.
use Rattle.std.proofs.Common.{◌≡◌, ℕ, zero, suc, ◌<◌, true, ◌==◌, List, [], ◌∷◌, length, replicate, get_or}
use Rattle.std.proofs.Common.{Option, Some, None, is_some, unwrap_or, ◌∙◌, sym, ap, subst, refl, arith, inl, inr, eq-eqb, lt-ltb}
use Rattle.std.specs.Prelude.{Contains, slice_get}
use Rattle.std.specs.List.{list_all}
use Rattle.std.proofs.lemmas.Bool.{false≢true, and_from, cases_eq}
use Rattle.std.proofs.lemmas.List.{get_or-set_other, get_or-set_same, length-replicate, length-set}
use Rattle.cov_model.specs.Fits.{FitsModel}
use Rattle.cov_model.specs.believed.Rows.{is_assigned, value_in, with_value}
use Rattle.cov_model.specs.believed.Sound.{ModelView, param_at}
use Rattle.cov_model.specs.believed.Valid.{has_value, is_row, param_numbers}
use Rattle.cov_model.proofs.CellLemmas.{assigned_within}
use Rattle.cov_model.proofs.RowLemmas.{FitsModel-is_row}
use Rattle.definitions.specs.believed.Demand.{is_among}
use Rattle.definitions.specs.Laws.{GivesListed}
use Rattle.definitions.proofs.Members.{all_pass, among_has, contains_member, has_contained, of_among}
use Rattle.definitions.proofs.PartialRowLemmas.{among_head}
use Rattle.definitions.proofs.SliceLemmas.{of_params}
use Rattle.feasibility.specs.Path.{filled}
use Rattle.feasibility.specs.Tree.{ListsValues, no_values}
use Rattle.feasibility.proofs.Nodes.{length-filled}
use Rattle.full_search.specs.Witnesses.{ListsEach}

-- its values are among the listed ones
pub given_among : (lists : List (List ℕ)) (row : List (Option ℕ)) (p : ℕ) → GivesListed lists row → p < length lists
    → is_among (get_or lists p []) (value_in row p) ≡ true
given_among lists row p given within =
    among_has (get_or lists p []) (value_in row p) (has_contained (get_or lists p []) (value_in row p) (given.listed p within))

pub given_exists : (m : ModelView) (lists : List (List ℕ)) (row : List (Option ℕ)) (p w : ℕ) → ListsValues m lists → GivesListed lists row
    → p < length m.params → get_or row p None ≡ Some w → w < length (param_at m.params p).values
given_exists m lists row p w values given within is =
    subst (λ (cell : Option ℕ). unwrap_or cell 0 < length (param_at m.params p).values) is
    (values.exist p (value_in row p) (given_among lists row p given (omega (arith, within, values.as_many))))

-- it is a row of the model
pub given_is_row : (m : ModelView) (lists : List (List ℕ)) (row : List (Option ℕ)) → ListsValues m lists → GivesListed lists row → is_row m row ≡ true
given_is_row m lists row values given =
    and_from (length row == length m.params) (list_all (has_value m row) (param_numbers m))
    (eq-eqb (length row) (length m.params) (given.as_long ∙ values.as_many))
    (all_pass (has_value m row) (param_numbers m) (λ p has. has_one p (omega (arith, of_params m p has, values.as_many))))
  where
    has_one : (p : ℕ) → p < length lists → has_value m row p ≡ true
    has_one p within =
        and_from (is_assigned row p) _ (given.assigned p within)
        (lt-ltb (value_in row p) (length (param_at m.params p).values) (values.exist p (value_in row p) (given_among lists row p given within)))

pub given_fits : (m : ModelView) (lists : List (List ℕ)) (row : List (Option ℕ)) → ListsValues m lists → GivesListed lists row → FitsModel m row
given_fits m lists row values given = FitsModel-is_row m row (given_is_row m lists row values given)

-- so does the row with another listed value
pub given_with : (lists : List (List ℕ)) (row : List (Option ℕ)) (p v : ℕ) → GivesListed lists row → p < length lists
    → is_among (get_or lists p []) v ≡ true → GivesListed lists (with_value row p v)
given_with lists row p v given within listed = record {
  as_long = length-set row p (Some v) ∙ given.as_long;
  assigned = λ q low.
      elim (cases_eq q p) [
        | inl same ↦ ap (is_assigned (with_value row p v)) same ∙ ap is_some here
        | inr differs ↦ ap is_some (get_or-set_other row p q (Some v) None differs) ∙ given.assigned q low
      ];
  listed = λ q low.
      elim (cases_eq q p) [
        | inl same ↦
            subst (λ (k : ℕ). Contains (get_or lists k []) (value_in (with_value row p v) k)) (sym same)
            (subst (λ (cell : Option ℕ). Contains (get_or lists p []) (unwrap_or cell 0)) (sym here)
            (contains_member (get_or lists p []) v (of_among (get_or lists p []) v listed)))
        | inr differs ↦
            subst (λ (cell : Option ℕ). Contains (get_or lists q []) (unwrap_or cell 0)) (sym (get_or-set_other row p q (Some v) None differs)) (given.listed q low)
      ];
}
  where
    here : get_or (with_value row p v) p None ≡ Some v
    here = get_or-set_same row p (Some v) None (omega (arith, within, given.as_long))

-- the first of a list, where there is one
first_among : (values : List ℕ) → is_some (slice_get values 0) ≡ true → is_among values (unwrap_or (slice_get values 0) 0) ≡ true
first_among [] some = absurd (false≢true some)
first_among (v ∷ values) some = among_head v values

some_first : (values : List ℕ) → 0 < length values → is_some (slice_get values 0) ≡ true
some_first [] some = absurd (omega arith)
some_first (v ∷ values) some = refl

-- a row of first values
first_at : (lists : List (List ℕ)) (n p : ℕ) → p < length lists → p < n → get_or (filled lists (replicate n None)) p None ≡ slice_get (get_or lists p []) 0
first_at [] n p low within = absurd (omega arith)
first_at (values ∷ rest) zero p low within = absurd (omega arith)
first_at (values ∷ rest) (suc n) zero low within = refl
first_at (values ∷ rest) (suc n) (suc p) low within = first_at rest n p (omega arith) (omega arith)

pub filled_fits : (m : ModelView) (lists : List (List ℕ)) → ListsValues m lists → FitsModel m (filled lists (no_values m))
filled_fits m lists values = record {
  as_long = long;
  exist = λ p assigned.
      let within : p < length m.params = omega (arith, assigned_within (filled lists (no_values m)) p assigned, long) in
      let first = first_at lists (length m.params) p (omega (arith, within, values.as_many)) within in
      values.exist p (value_in (filled lists (no_values m)) p)
      (subst (λ (cell : Option ℕ). is_among (get_or lists p []) (unwrap_or cell 0) ≡ true) (sym first)
      (first_among (get_or lists p []) (ap is_some (sym first) ∙ assigned)));
}
  where
    long : length (filled lists (no_values m)) ≡ length m.params
    long = length-filled lists (no_values m) ∙ length-replicate (length m.params) None

pub filled_given : (m : ModelView) (lists : List (List ℕ)) → ListsValues m lists → ListsEach lists → GivesListed lists (filled lists (no_values m))
filled_given m lists values each = record {
  as_long = length-filled lists (no_values m) ∙ length-replicate (length m.params) None ∙ sym values.as_many;
  assigned = λ p low. ap is_some (first p low) ∙ some_first (get_or lists p []) (each p low);
  listed = λ p low.
      subst (λ (cell : Option ℕ). Contains (get_or lists p []) (unwrap_or cell 0)) (sym (first p low))
      (contains_member (get_or lists p []) (unwrap_or (slice_get (get_or lists p []) 0) 0)
      (of_among (get_or lists p []) (unwrap_or (slice_get (get_or lists p []) 0) 0)
      (first_among (get_or lists p []) (some_first (get_or lists p []) (each p low)))));
}
  where
    first : (p : ℕ) → p < length lists → get_or (filled lists (no_values m)) p None ≡ slice_get (get_or lists p []) 0
    first p low = first_at lists (length m.params) p low (omega (arith, low, values.as_many))
