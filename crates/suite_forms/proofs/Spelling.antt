-- What stands in a row for a cell, and when it is that of the name whose turn it is.
use Rattle.std.proofs.Common.{◌≡◌, ℕ, ◌%◌, ◌<◌, Bool, true, List, [], length, get_or, refl, ap, ◌∙◌, arith}
use Rattle.std.specs.Prelude.{Option, Some}
use Rattle.std.proofs.lemmas.List.{get_or-map}
use Rattle.std.proofs.Math.Nat.{mod-lt}
use Rattle.cov_model.specs.believed.Sound.{ModelView}
use Rattle.cov_model.specs.believed.Meaning.{value_at}
use Rattle.cov_model.specs.believed.Rows.{is_assigned, value_in}
use Rattle.definitions.specs.believed.Report.{printed, times_given}
use Rattle.row_forms.specs.declared.row_form.RowForm.{RowForm}
use Rattle.row_forms.specs.believed.Forms.{piece}
use Rattle.row_text.proofs.Turning.{cell_shown}
use Rattle.suite_forms.specs.Pieces.{cell_piece, name_pieces}
use Rattle.suite_forms.specs.believed.Suites.{spelled}

pub same_piece : (form : RowForm) (first first' only only' : Bool) (name name' : List ℕ) (cell cell' : Option (List ℕ))
    → first ≡ first' → only ≡ only' → name ≡ name' → cell ≡ cell' → piece form first only name cell ≡ piece form first' only' name' cell'
same_piece form first first' only only' name name' cell cell' a b n c =
    ap (λ x. piece form x only name cell) a ∙ ap (λ x. piece form first' x name cell) b ∙ ap (λ x. piece form first' only' x cell) n
    ∙ ap (piece form first' only' name') c

-- the piece of the name whose turn it is
pub piece_shown : (form : RowForm) (m : ModelView) (earlier : List (List (Option ℕ))) (row : List (Option ℕ)) (p number shown : ℕ) (d : List ℕ)
    → is_assigned row p ≡ true → number ≡ value_in row p → 0 < length (value_at m p number).names
    → shown ≡ times_given earlier p number % length (value_at m p number).names
    → get_or (name_pieces form m p (value_at m p number)) shown d ≡ cell_piece form m p (spelled m earlier row p)
piece_shown form m earlier row p number shown d assigned gives some turn =
    let value = value_at m p number in
    let within : shown < length value.names = omega (arith, turn, mod-lt (times_given earlier p number) some) in
    get_or-map (λ name. cell_piece form m p (Some (printed m value name))) value.names shown [] d within
    ∙ ap (λ t. cell_piece form m p (Some t)) (cell_shown m earlier row p number shown value (get_or value.names shown []) [] gives refl some turn refl)
    ∙ rw assigned refl
