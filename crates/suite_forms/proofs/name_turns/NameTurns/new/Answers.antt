use Rattle.std.proofs.Common.{length, map, get_or, ap, ◌∙◌, arith, List}
use Rattle.std.specs.Prelude.{replicate}
use Rattle.cov_model.specs.declared.parameter.Param.{Param}
use Rattle.row_text.proofs.Turning.{map_made_more}
use Rattle.suite_forms.proofs.name_turns.NameTurns.new.Goals as goal

pub loop-param-preserved : goal.loop-param-preserved
loop-param-preserved c =
    let params = c.args.model.now.params in
    let same = c.as_slice-param-items.ensures ∙ c.params.ensures.value in
    let at = c.loop-param.param-index in
    let item = c.param-item.is ∙ ap (λ (xs : List Param). get_or xs at c.param-item.result) same in
    ap (map (λ next. next.items)) c.in_ok-push.ensures.items
    ∙ map_made_more (λ (param : Param). replicate (length param.values) 0)
    (λ next. next.items) params c.loop-param.places.items at c.param-item.result c.in_ok-next.next
    (omega (arith, ap length same)) c.loop-param.invariant
    (c.in_ok-next.ensures ∙ ap (λ n. replicate n 0) c.len.ensures ∙ ap (λ (param : Param). replicate (length param.values) 0) item)
