use Rattle.std.proofs.Common.{List, get_or, length, map, ap, ◌∙◌, arith}
use Rattle.cov_model.specs.declared.parameter.Param.{Param}
use Rattle.row_text.proofs.Turning.{map_made_more}
use Rattle.model_page.proofs.tests.param_names.Goals as goal

pub loop-param-preserved : goal.loop-param-preserved
loop-param-preserved c =
    let params = c.args.model.now.params in
    let same = c.as_slice-param-items.ensures ∙ c.params.ensures.value in
    let at = c.loop-param.param-index in
    let item = c.param-item.is ∙ ap (λ (xs : List Param). get_or xs at c.param-item.result) same in
    ap (map (λ name. name.now)) c.in_ok-push.ensures.items
    ∙ map_made_more (λ (param : Param). param.name) (λ name. name.now) params c.loop-param.names.items at c.param-item.result c.as_str.result
    (omega (arith, ap length same)) c.loop-param.invariant (c.as_str.ensures.value ∙ ap (λ (param : Param). param.name) item)
