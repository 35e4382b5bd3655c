use Rattle.std.proofs.Common.{◌≡◌, Some, None, cond, get_or, ◌∙◌, sym, ap, ap₂}
use Rattle.std.specs.Option.{option_or}
use Rattle.std.specs.Str.{bytes_eq}
use Rattle.value_text.specs.believed.Texts.{folded}
use Rattle.row_text.specs.Lookups.{is_param_named}
use Rattle.row_text.proofs.LookingUp.{position_more}
use Rattle.row_text.proofs.model_names.param_texts.Goals as goal

pub loop-number-preserved : goal.loop-number-preserved
loop-number-preserved c = λ key.
    let params = c.as_slice-param-items.result.now in
    let n = c.loop-number.number in
    let text : c.fold_key.new.key.items ≡ folded c.args.model.now.fold (get_or params n c.param-item.result).name =
    c.fold_key.ensures ∙ ap₂ folded c.fold.ensures.value (c.in_ok-key.ensures.items ∙ c.as_bytes.ensures.value ∙ c.as_str.ensures.value ∙ ap (λ param. param.name) c.param-item.is) in
    c.in_ok-add.ensures key
    ∙ ap₂ (λ o t. option_or o (cond (bytes_eq t key) (Some n) None)) (c.loop-number.invariant key) text
    ∙ sym (position_more (is_param_named c.args.model.now key) params n c.param-item.result c.loop-number-test.true)
