use Rattle.std.proofs.Common.{◌<◌, ◌≤◌, length, map, ap, ◌∙◌, arith, refl}
use Rattle.std.specs.Prelude.{None}
use Rattle.std.proofs.lemmas.List.{take_all}
use Rattle.cov_model.specs.believed.Valid.{param_numbers}
use Rattle.suite_forms.specs.Pieces.{cell_piece, value_pieces}
use Rattle.suite_forms.proofs.Making.{count_of_params, made_param}
use Rattle.suite_forms.proofs.Spelling.{same_piece}
use Rattle.suite_forms.proofs.cell_pieces.CellPieces.new.Goals as goal

pub loop-place-preserved : goal.loop-place-preserved
loop-place-preserved c =
    let m = c.args.model.now in
    let form = c.args.form in
    let place = c.loop-place.place in
    let inside : place < length m.params = omega (arith, c.len-place-end.ensures, ap length c.params.ensures.value) in
    let absent = c.in_ok-new.ensures ∙ same_piece form _ _ _ _ _ _ _ _ c.column_of.ensures.first c.column_of.ensures.only c.column_of.ensures.name refl in
    record {
      absent = c.in_ok-push.ensures.ok ∙ made_param (λ p. cell_piece form m p None) m c.loop-place.absent place c.in_ok-new.field-0 inside c.loop-place.invariant.absent absent;
      given = c.in_ok-push-2.ensures.ok
          ∙ made_param (value_pieces form m) m c.loop-place.given place c.in_ok-value_pieces.field-0 inside c.loop-place.invariant.given c.in_ok-value_pieces.ensures;
    }

pub returns-clause-pieces : goal.returns-clause-pieces
returns-clause-pieces c =
    let m = c.args.model.now in
    let form = c.args.form in
    let absent = map (λ p. cell_piece form m p None) (param_numbers m) in
    let given = map (value_pieces form m) (param_numbers m) in
    let past : length m.params ≤ c.loop-place.place = omega (arith, c.len-place-end.ensures, ap length c.params.ensures.value) in
    record {
      absent = c.loop-place.invariant.absent ∙ take_all c.loop-place.place absent (omega (arith, past, count_of_params (λ p. cell_piece form m p None) m));
      given = c.loop-place.invariant.given ∙ take_all c.loop-place.place given (omega (arith, past, count_of_params (value_pieces form m) m));
    }
