-- A row that isn't complete isn't valid.
use Rattle.std.proofs.Common.{◌≡◌, ℕ, suc, ◌<◌, true, false, ◌&&◌, List, [], ◌∷◌, length, Option, None, is_some, get_or, ◌∙◌, sym, ap, refl, arith}
use Rattle.std.specs.List.{list_all}
use Rattle.std.proofs.lemmas.Bool.{false_from_ne_true, false≢true, and_parts}
use Rattle.std.specs.Prelude.{nat_le}
use Rattle.cov_model.specs.believed.Sound.{ModelView}
use Rattle.cov_model.specs.Fits.{FitsModel}
use Rattle.cov_model.specs.believed.Meaning.{body_holds}
use Rattle.cov_model.specs.believed.Rows.{is_complete}
use Rattle.cov_model.specs.believed.Valid.{is_row, is_valid, negatives}
use Rattle.cov_model.proofs.RowLemmas.{FitsModel-is_row, row_is_assigned}

-- what passes at each place passes for each member
each_place : (cells : List (Option ℕ)) → ((p : ℕ) → p < length cells → is_some (get_or cells p None) ≡ true) → is_complete cells ≡ true
each_place [] each = refl
each_place (cell ∷ cells) each = ap (λ b. b && is_complete cells) (each 0 (omega arith)) ∙ each_place cells (λ p within. each (suc p) (omega (arith, within)))

pub incomplete_fails : (m : ModelView) (cells : List (Option ℕ)) → FitsModel m cells → is_complete cells ≡ false → is_valid m cells ≡ false
incomplete_fails m cells fits incomplete =
    false_from_ne_true (is_valid m cells) (λ valid.
    let whole = and_parts (is_row m cells && list_all (λ rule. body_holds m rule.body cells) m.rules) (nat_le (length (negatives m cells)) 1) valid in
    let row = (and_parts (is_row m cells) (list_all (λ rule. body_holds m rule.body cells) m.rules) whole.0).0 in
    false≢true (sym incomplete ∙ each_place cells (λ p within. row_is_assigned m cells p row (omega (arith, within, fits.as_long)))))

-- a valid row is complete
pub complete_valid : (m : ModelView) (cells : List (Option ℕ)) → is_valid m cells ≡ true → is_complete cells ≡ true
complete_valid m cells valid =
    let whole = and_parts (is_row m cells && list_all (λ rule. body_holds m rule.body cells) m.rules) (nat_le (length (negatives m cells)) 1) valid in
    let row = (and_parts (is_row m cells) (list_all (λ rule. body_holds m rule.body cells) m.rules) whole.0).0 in
    each_place cells (λ p within. row_is_assigned m cells p row (omega (arith, within, (FitsModel-is_row m cells row).as_long)))
