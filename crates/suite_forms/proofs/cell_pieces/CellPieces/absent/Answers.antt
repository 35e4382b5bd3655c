use Rattle.std.proofs.Common.{get_or, length, ap, ◌∙◌, arith}
use Rattle.std.specs.Prelude.{None}
use Rattle.suite_forms.specs.Pieces.{cell_piece}
use Rattle.suite_forms.proofs.Making.{at_param, count_of_params}
use Rattle.suite_forms.proofs.cell_pieces.CellPieces.absent.Goals as goal

pub bounds-as_slice-place : goal.bounds-as_slice-place
bounds-as_slice-place c =
    let pieces = c.args.self.now in
    omega (arith, ap length (c.as_slice.ensures ∙ c.requires.pieces.absent), count_of_params (λ p. cell_piece pieces.form c.args.model.now p None) c.args.model.now)

pub returns : goal.returns
returns c =
    let pieces = c.args.self.now in
    let m = c.args.model.now in
    c.as_slice-2.ensures ∙ c.index-as_slice-place.is
    ∙ ap (λ xs. get_or xs c.args.place c.index-as_slice-place.result) (c.as_slice.ensures ∙ c.requires.pieces.absent)
    ∙ at_param (λ p. cell_piece pieces.form m p None) m c.args.place c.index-as_slice-place.result c.requires.place
