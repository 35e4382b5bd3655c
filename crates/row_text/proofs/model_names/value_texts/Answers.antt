use Rattle.std.proofs.Common.{Some, None, cond, ◌∙◌, sym, ap₂}
use Rattle.std.specs.Option.{option_or}
use Rattle.row_text.specs.Lookups.{is_value_named}
use Rattle.row_text.proofs.LookingUp.{position_more}
use Rattle.row_text.proofs.model_names.value_texts.Goals as goal

pub loop-number-preserved : goal.loop-number-preserved
loop-number-preserved c = λ key.
    let values = c.as_slice-value-items.result.now in
    let n = c.loop-number.number in
    c.in_ok-add_value.ensures key
    ∙ ap₂ (λ o value. option_or o (cond (is_value_named c.args.model.now key value) (Some n) None)) (c.loop-number.invariant key) c.value-item.is
    ∙ sym (position_more (is_value_named c.args.model.now key) values n c.value-item.result c.loop-number-test.true)
