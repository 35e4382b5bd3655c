use Rattle.std.proofs.Common.{◌≡◌, map, take}
use Rattle.std.specs.Prelude.{None}
use Rattle.cov_model.specs.believed.Valid.{param_numbers}
use Rattle.suite_forms.specs.Pieces.{cell_piece, value_pieces}
use Rattle.suite_forms.proofs.cell_pieces.CellPieces.new.Given as goal

abbrev pub invariant-loop-place : goal.invariant-loop-place
invariant-loop-place l = record {
  absent : l.absent ≡ take l.place (map (λ p. cell_piece l.form l.model p None) (param_numbers l.model));
  given : l.given ≡ take l.place (map (value_pieces l.form l.model) (param_numbers l.model));
}
