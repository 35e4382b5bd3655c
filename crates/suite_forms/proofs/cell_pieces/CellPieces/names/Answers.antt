use Rattle.std.proofs.Common.{get_or, length, ap, ◌∙◌, arith}
use Rattle.std.proofs.lemmas.List.{get_or-map, length-map}
use Rattle.cov_model.specs.believed.Meaning.{no_value}
use Rattle.cov_model.specs.believed.Sound.{param_at}
use Rattle.suite_forms.specs.Pieces.{name_pieces, value_pieces}
use Rattle.suite_forms.proofs.Making.{at_param, count_of_params}
use Rattle.suite_forms.proofs.cell_pieces.CellPieces.names.Goals as goal

pub bounds-as_slice-place : goal.bounds-as_slice-place
bounds-as_slice-place c =
    let pieces = c.args.self.now in
    omega (arith, ap length (c.as_slice.ensures ∙ c.requires.pieces.given), count_of_params (value_pieces pieces.form c.args.model.now) c.args.model.now)

pub bounds-as_slice-value : goal.bounds-as_slice-value
bounds-as_slice-value c =
    let pieces = c.args.self.now in
    let m = c.args.model.now in
    let of = c.as_slice-2.ensures ∙ c.index-as_slice-place.is
    ∙ ap (λ xs. get_or xs c.args.place c.index-as_slice-place.result) (c.as_slice.ensures ∙ c.requires.pieces.given)
    ∙ at_param (value_pieces pieces.form m) m c.args.place c.index-as_slice-place.result c.requires.place in
    omega (arith, ap length of, length-map (param_at m.params c.args.place).values (name_pieces pieces.form m c.args.place))

pub returns-clause-names : goal.returns-clause-names
returns-clause-names c =
    let pieces = c.args.self.now in
    let m = c.args.model.now in
    let of = c.as_slice-2.ensures ∙ c.index-as_slice-place.is
    ∙ ap (λ xs. get_or xs c.args.place c.index-as_slice-place.result) (c.as_slice.ensures ∙ c.requires.pieces.given)
    ∙ at_param (value_pieces pieces.form m) m c.args.place c.index-as_slice-place.result c.requires.place in
    c.as_slice-3.ensures ∙ c.index-as_slice-value.is
    ∙ ap (λ xs. get_or xs c.args.value c.index-as_slice-value.result) of
    ∙ get_or-map (name_pieces pieces.form m c.args.place) (param_at m.params c.args.place).values c.args.value no_value c.index-as_slice-value.result c.requires.value
