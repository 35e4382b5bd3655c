use Rattle.model_lint.proofs.Steps.{ok_also}
use Rattle.jeldroft_lint.proofs.Explaining.{tells_of}
use Rattle.jeldroft_lint.proofs.answer.told_of.Goals as goal

pub returns : goal.returns
returns c =
    ok_also c.in_order.result (λ told order.
    tells_of c.args.file.now.model c.args.all _ c.in_ok-remarks.remarks.items c.in_ok-hints.hints.items told.items c.in_ok-found.ensures.facts
    c.in_ok-remarks.ensures.gists c.in_ok-remarks.ensures.explained c.in_ok-hints.ensures order)
    c.in_order.ensures
