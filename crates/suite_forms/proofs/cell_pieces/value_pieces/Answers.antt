use Rattle.std.proofs.Common.{List, get_or, length, ap, ◌∙◌, arith}
use Rattle.std.proofs.lemmas.List.{get_or_default}
use Rattle.cov_model.specs.declared.parameter.Param.{Param}
use Rattle.cov_model.specs.declared.parameter.Value.{Value}
use Rattle.cov_model.specs.believed.Sound.{no_param, param_at}
use Rattle.suite_forms.specs.Pieces.{name_pieces}
use Rattle.suite_forms.proofs.Making.{made_more}
use Rattle.suite_forms.proofs.cell_pieces.value_pieces.Goals as goal

pub loop-value-preserved : goal.loop-value-preserved
loop-value-preserved c =
    let m = c.args.model.now in
    let at = c.loop-value.value-index in
    let params = c.as_slice.ensures ∙ c.params.ensures.value in
    let param = ap (λ (ps : List Param). get_or ps c.args.place c.index-as_slice-place.result) params
    ∙ get_or_default m.params c.args.place c.index-as_slice-place.result no_param c.requires in
    let values = c.as_slice-value-items.ensures ∙ ap (λ (p : Param). p.values) param in
    let value = c.value-item.is ∙ ap (λ (vs : List Value). get_or vs at c.value-item.result) values in
    c.in_ok-push.ensures.ok
    ∙ made_more (name_pieces c.args.form m c.args.place) (param_at m.params c.args.place).values c.loop-value.pieces at c.value-item.result c.in_ok-name_pieces.field-0
    (omega (arith, ap length values)) c.loop-value.invariant (c.in_ok-name_pieces.ensures ∙ ap (name_pieces c.args.form m c.args.place) value)
