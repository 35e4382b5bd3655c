-- The pieces that the rows of a suite are made of: for each parameter one for the absent value, and one for each name
-- of each value. (How they are kept.)
use Rattle.std.specs.Prelude.{◌≡◌, ℕ, List, map, Option, Some, None, ◌==◌}
use Rattle.cov_model.specs.declared.parameter.Value.{Value}
use Rattle.cov_model.specs.believed.Sound.{ModelView, param_at}
use Rattle.cov_model.specs.believed.Valid.{param_numbers}
use Rattle.definitions.specs.believed.Report.{printed}
use Rattle.row_forms.specs.declared.row_form.RowForm.{RowForm}
use Rattle.row_forms.specs.believed.Forms.{piece}
use Rattle.row_forms.specs.believed.Tables.{is_single}
use Rattle.suite_forms.specs.declared.cell_pieces.CellPieces.{CellPieces}
use Rattle.suite_forms.specs.believed.Suites.{param_names}

-- what stands in a row for a cell of a parameter
abbrev pub cell_piece : RowForm → ModelView → ℕ → Option (List ℕ) → List ℕ
cell_piece form m p cell = piece form (p == 0) (is_single (param_names m)) (param_at m.params p).name cell

-- what stands there for each name of a value, and for each value
abbrev pub name_pieces : RowForm → ModelView → ℕ → Value → List (List ℕ)
name_pieces form m p value = map (λ name. cell_piece form m p (Some (printed m value name))) value.names

abbrev pub value_pieces : RowForm → ModelView → ℕ → List (List (List ℕ))
value_pieces form m p = map (name_pieces form m p) (param_at m.params p).values

-- the pieces are those of the model's parameters
pub record ArePiecesOf (m : ModelView) (pieces : CellPieces) : Type 0 where
  pub absent : pieces.absent ≡ map (λ p. cell_piece pieces.form m p None) (param_numbers m)
  pub given : pieces.given ≡ map (value_pieces pieces.form m) (param_numbers m)
