use Rattle.std.proofs.Common.{subst, sym}
use Rattle.jeldroft_lint.specs.believed.Linting.{Prints}
use Rattle.jeldroft_lint.proofs.run.run_lint.Goals as goal

pub returns-clause-prints : goal.returns-clause-prints
returns-clause-prints g c held told =
    subst (λ status. Prints c.args.args.now held (g.O.Sink.seen c.args.out.now) (g.O.Sink.seen c.print_findings-end.new.out) status) (sym c.status_of.ensures)
    (c.print_findings-end.ensures.prints held told)
