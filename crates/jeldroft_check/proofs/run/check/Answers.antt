use Rattle.std.proofs.Common.{subst, sym}
use Rattle.value_text.proofs.ListLemmas.{is_err}
use Rattle.jeldroft_check.specs.Steps.{Ends}
use Rattle.jeldroft_check.proofs.Ending.{printed}
use Rattle.jeldroft_check.proofs.run.check.Goals as goal

pub returns-in_err-verdict-clause-ends : goal.returns-in_err-verdict-clause-ends
returns-in_err-verdict-clause-ends g c = λ held holds.
    let out = g.O.Sink.seen c.args.out.now in
    subst (Ends c.args.args.now held out out) (sym (is_err c.from_residual.ensures.1)) (c.in_err-verdict.ensures.answers held holds)

pub returns-clause-ends : goal.returns-clause-ends
returns-clause-ends g c = λ held holds.
    printed c.args.args.now held (g.O.Sink.seen c.args.out.now) (g.O.Sink.seen c.print.new.out) c.in_ok-verdict.verdict
    (c.in_ok-verdict.ensures.answers held holds) c.in_ok-print.ensures.printed
