use Rattle.std.proofs.Common.{Err, ap, subst, sym}
use Rattle.check_cli.specs.believed.Runs.{Ends}
use Rattle.check_cli.proofs.RunEnds.{printed_ends, stopped_ends}
use Rattle.check_cli.proofs.run.check.Goals as goal
use Rattle.value_text.proofs.ListLemmas.{is_err, one_err}

pub returns-in_err-verdict-clause-ends : goal.returns-in_err-verdict-clause-ends
returns-in_err-verdict-clause-ends g c = λ held holds.
    let out = g.O.Sink.seen c.args.out.now in
    subst (Ends c.args.opts.now.opts held out out) (sym (is_err c.from_residual.ensures.1))
    (stopped_ends c.args.opts.now.opts held out c.in_err-verdict.field-0.0 c.in_err-verdict.ensures.before (c.in_err-verdict.ensures.answers held holds))

pub returns-in_err-verdict-clause-read : goal.returns-in_err-verdict-clause-read
returns-in_err-verdict-clause-read g c = λ kind e.
    c.in_err-verdict.ensures.read kind (ap Err (one_err (is_err c.from_residual.ensures.1) e))

pub returns-clause-ends : goal.returns-clause-ends
returns-clause-ends g c = λ held holds.
    printed_ends c.args.opts.now.opts held (g.O.Sink.seen c.args.out.now)
    (g.O.Sink.seen c.print.new.out) c.in_ok-verdict.verdict c.print.result (c.in_ok-verdict.ensures.answers held holds) c.print.ensures.prints
