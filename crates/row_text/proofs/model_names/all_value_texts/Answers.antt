use Rattle.std.proofs.Common.{◌∙◌, arith}
use Rattle.row_text.proofs.NameSteps.{values_begin, values_end, values_go_on}
use Rattle.row_text.proofs.model_names.all_value_texts.Goals as goal

pub loop-param-init : goal.loop-param-init
loop-param-init c = rw c.new-values.ensures.items (values_begin c.args.model.now c.as_slice-param-items.result.now)

pub loop-param-preserved : goal.loop-param-preserved
loop-param-preserved c =
    values_go_on c.args.model.now c.as_slice-param-items.result.now c.loop-param.param-index c.loop-param.values.items c.push.new.self.items c.in_ok-texts.texts c.param-item.result
    c.loop-param.invariant c.loop-param-test.true c.param-item.is c.in_ok-texts.ensures c.in_ok-push.ensures.items

pub returns : goal.returns
returns c =
    let whole =
    values_end c.args.model.now c.as_slice-param-items.result.now c.loop-param.param-index c.loop-param.values.items c.loop-param.invariant
    (c.as_slice-param-items.ensures ∙ c.params.ensures.value) (omega arith) in
    record { many = whole.many; named = whole.each }
