use Rattle.std.proofs.Common.{◌++◌, ap, sym, ◌∙◌}
use Rattle.std.proofs.lemmas.List.{take-map}
use Rattle.pict_cli.specs.believed.RowSources.{dropped_note}
use Rattle.pict_cli.proofs.Suites.{if_err}
use Rattle.pict_cli.proofs.suite.push_dropped.Goals as goal

pub returns-in_err-push-clause-refused : goal.returns-in_err-push-clause-refused
returns-in_err-push-clause-refused c =
    if_err c.from_residual.result (
      c.loop-line.line-index,
      c.in_err-push.ensures.err ∙ c.loop-line.invariant ∙ ap (λ told. c.args.notes.now ++ told) (sym (take-map dropped_note c.loop-line.line-index c.args.lines.now)),
    )
