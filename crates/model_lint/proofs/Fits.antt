-- Which partial rows fit.
use Rattle.std.proofs.Common.{◌≡◌, ℕ, ◌<◌, true, List, length, get_or, replicate, Option, Some, None, is_some, unwrap_or, inl, inr, ap, sym, subst, ◌∙◌, arith}
use Rattle.std.proofs.lemmas.Bool.{cases_eq, false≢true}
use Rattle.std.proofs.lemmas.List.{get_or-replicate, get_or-set_other, get_or-set_same, length-replicate, length-set}
use Rattle.cov_model.specs.Fits.{FitsModel}
use Rattle.cov_model.specs.believed.Rows.{is_assigned, value_in, with_value}
use Rattle.cov_model.specs.believed.Sound.{ModelView, param_at}
use Rattle.cov_model.proofs.CellLemmas.{assigned_within}
use Rattle.model_lint.specs.declared.change.Change.{Change}
use Rattle.model_lint.specs.Changes.{changed}
use Rattle.model_lint.specs.believed.Tests.{no_values}

-- what fits a model fits a changed one
pub fits_changed : (m : ModelView) (changes : List Change) (cells : List (Option ℕ)) → FitsModel m cells → FitsModel (changed m changes) cells
fits_changed m changes cells fits = record { as_long = fits.as_long; exist = fits.exist }

none_assigned : (n p : ℕ) → is_assigned (replicate n None) p ≡ true → ⊥
none_assigned n p assigned =
    let within = assigned_within (replicate n None) p assigned in
    false≢true (sym (ap is_some (get_or-replicate n p None None (omega (arith, within, length-replicate {A = Option ℕ} n None)))) ∙ assigned)

-- what gives nothing a value fits, and what gives one parameter a value that exists
pub nothing_fits : (m : ModelView) → FitsModel m (no_values m)
nothing_fits m = record {
  as_long = length-replicate {A = Option ℕ} (length m.params) None;
  exist = λ p assigned. absurd (none_assigned (length m.params) p assigned);
}

pub value_fits : (m : ModelView) (p v : ℕ) → p < length m.params → v < length (param_at m.params p).values → FitsModel m (with_value (no_values m) p v)
value_fits m p v within exists = record {
  as_long = length-set (no_values m) p (Some v) ∙ length-replicate {A = Option ℕ} (length m.params) None;
  exist = λ q assigned.
      elim (cases_eq q p) [
        | inl same ↦
            let here : get_or (with_value (no_values m) p v) q None ≡ Some v
            = ap (λ r. get_or (with_value (no_values m) p v) r None) same ∙ get_or-set_same (no_values m) p (Some v) None (omega (arith, within, length-replicate {A = Option ℕ} (length m.params) None)) in
            let is : value_in (with_value (no_values m) p v) q ≡ v = ap (λ (cell : Option ℕ). unwrap_or cell 0) here in
            subst (λ r. value_in (with_value (no_values m) p v) q < length (param_at m.params r).values) (sym same) (omega (arith, exists, is))
        | inr apart ↦ absurd (none_assigned (length m.params) q (sym (ap is_some (get_or-set_other (no_values m) p q (Some v) None apart)) ∙ assigned))
      ];
}
