use Rattle.std.proofs.Common.{List, ℕ, get_or, length, ap, ◌∙◌, arith}
use Rattle.std.specs.Prelude.{Some}
use Rattle.definitions.specs.believed.Report.{printed}
use Rattle.suite_forms.specs.Pieces.{cell_piece}
use Rattle.suite_forms.proofs.Making.{made_more}
use Rattle.suite_forms.proofs.Spelling.{same_piece}
use Rattle.suite_forms.proofs.cell_pieces.name_pieces.Goals as goal

pub loop-name-preserved : goal.loop-name-preserved
loop-name-preserved c =
    let m = c.args.model.now in
    let value = c.args.value.now in
    let at = c.loop-name.name-index in
    let name = c.name-item.is ∙ ap (λ (names : List (List ℕ)). get_or names at c.name-item.result) c.as_slice-name-items.ensures in
    let text = c.as_str-in-loop-name.ensures.value ∙ c.in_ok-text.ensures ∙ ap (printed m value) (c.as_str.ensures.value ∙ name) in
    let spelled = c.in_ok-new.ensures
    ∙ same_piece c.args.form _ _ _ _ _ _ _ _ c.column_of-column.ensures.first c.column_of-column.ensures.only c.column_of-column.ensures.name (ap (λ (t : List ℕ). Some t) text) in
    c.in_ok-push.ensures.ok
    ∙ made_more (λ (name : List ℕ). cell_piece c.args.form m c.args.place (Some (printed m value name))) value.names c.loop-name.pieces at c.name-item.result c.in_ok-new.field-0
    (omega (arith, ap length c.as_slice-name-items.ensures)) c.loop-name.invariant spelled
