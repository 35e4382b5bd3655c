-- Rows give each parameter a value that exists.
use Rattle.std.proofs.Common.{◌≡◌, ℕ, ◌<◌, true, List, length, Option, ◌∙◌, sym, ap, arith, zero-add}
use Rattle.std.specs.List.{list_all}
use Rattle.std.proofs.lemmas.List.Elements.{All-get_or}
use Rattle.std.proofs.lemmas.List.Sums.{AllPass-from_list_all}
use Rattle.std.proofs.lemmas.List.FromFn.{length-range_with_len, get_or-range_with_len}
use Rattle.std.proofs.lemmas.Grind.{common_steps}
use Rattle.cov_model.specs.believed.Sound.{ModelView}
use Rattle.cov_model.specs.believed.Rows.{is_assigned}
use Rattle.cov_model.specs.Fits.{FitsModel}
use Rattle.cov_model.specs.believed.Valid.{is_row, has_value, param_numbers}
use Rattle.cov_model.proofs.CellLemmas.{assigned_within}
pub use Rattle.cov_model.proofs.CellLemmas.{contains-get_or}

pub row_has_value : (m : ModelView) (row : List (Option ℕ)) (p : ℕ) → is_row m row ≡ true → p < length m.params → has_value m row p ≡ true
row_has_value m row p complete within =
    let every : list_all (has_value m row) (param_numbers m) ≡ true = grind (arith, common_steps) in
    let inside : p < length (param_numbers m) = omega (arith, length-range_with_len 0 (length m.params)) in
    let here = All-get_or (λ q. has_value m row q ≡ true) (param_numbers m) p 0 inside (AllPass-from_list_all (has_value m row) (param_numbers m) every) in
    ap (has_value m row) (sym (get_or-range_with_len 0 (length m.params) p 0 within ∙ zero-add p)) ∙ here

pub row_is_assigned : (m : ModelView) (row : List (Option ℕ)) (p : ℕ) → is_row m row ≡ true → p < length m.params → is_assigned row p ≡ true
row_is_assigned m row p complete within = let has = row_has_value m row p complete within in grind (arith, common_steps)

-- a row fits
pub FitsModel-is_row : (m : ModelView) (row : List (Option ℕ)) → is_row m row ≡ true → FitsModel m row
FitsModel-is_row m row complete =
    let long : length row ≡ length m.params = grind (arith, common_steps) in
    record {
      as_long = long;
      exist = λ p assigned.
          let inside = assigned_within row p assigned in
          let within : p < length m.params = omega arith in
          let has = row_has_value m row p complete within in
          grind (arith, common_steps);
    }
