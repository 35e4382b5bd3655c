use Rattle.std.proofs.Common.{List, get_or, length, ap, ◌∙◌, arith}
use Rattle.cov_model.specs.declared.parameter.Param.{Param}
use Rattle.row_text.proofs.Lines.{line_more}
use Rattle.row_text.proofs.Sending.{Adds-then, Adds-same}
use Rattle.row_text.proofs.report.put_header.Goals as goal

pub loop-place-preserved : goal.loop-place-preserved
loop-place-preserved g c =
    let params = c.args.model.now.params in
    let same = c.as_slice-param-items.ensures ∙ c.params.ensures.value in
    let at = c.loop-place.place in
    let item = c.param-item.is ∙ ap (λ (xs : List Param). get_or xs at c.param-item.result) same in
    let name = c.as_bytes.ensures.value ∙ c.as_str.ensures.value ∙ ap (λ (param : Param). param.name) item in
    Adds-same (line_more (λ (param : Param). param.name) params at c.param-item.result c.as_bytes.result.now (omega (arith, ap length same)) name)
    (Adds-then (Adds-then c.loop-place.invariant c.put_separator.ensures) c.add.ensures)
