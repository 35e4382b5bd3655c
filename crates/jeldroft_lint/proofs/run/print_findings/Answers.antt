use Rattle.std.proofs.Common.{List, Option, refl, subst, ℕ}
use Rattle.jeldroft_files.specs.believed.Models.{StopsModel}
use Rattle.jeldroft_files.specs.believed.Runs.{IsPrinted}
use Rattle.jeldroft_lint.specs.Linting.{IsAnswer}
use Rattle.jeldroft_lint.specs.believed.Linting.{lint_opts}
use Rattle.jeldroft_lint.proofs.Ending.{stopped, unprinted}
use Rattle.jeldroft_lint.proofs.Told.{answered, printed}
use Rattle.jeldroft_lint.proofs.run.print_findings.Goals as goal
use Rattle.value_text.proofs.ListLemmas.{at_held}

pub returns-in_ok-write_text-in-Ok-clause-lints : goal.returns-in_ok-write_text-in-Ok-clause-lints
returns-in_ok-write_text-in-Ok-clause-lints g c held told =
    answered c.args.args.now held c.in-Ok.report.text.items c.in-Ok.report.status
    (at_held (λ (file : Option (List ℕ)). IsAnswer c.args.args.now file c.in-Ok.report.text.items c.in-Ok.report.status) _ held told c.in-Ok.ensures.told)
    c.in-Ok.ensures.few

pub returns-in_ok-write_text-in-Ok-clause-prints : goal.returns-in_ok-write_text-in-Ok-clause-prints
returns-in_ok-write_text-in-Ok-clause-prints g c held told =
    printed c.args.args.now held c.in-Ok.report.text.items c.in-Ok.report.status
    (at_held (λ (file : Option (List ℕ)). IsAnswer c.args.args.now file c.in-Ok.report.text.items c.in-Ok.report.status) _ held told c.in-Ok.ensures.told)
    (g.O.Sink.seen c.args.out.now) (g.O.Sink.seen c.write_text.new.out)
    (subst (λ text. IsPrinted text (g.O.Sink.seen c.args.out.now) (g.O.Sink.seen c.write_text.new.out)) c.as_slice.ensures.value
    (c.in_ok-write_text-in-Ok.ensures.writes.written refl))

pub returns-in-Err-clause-lints : goal.returns-in-Err-clause-lints
returns-in-Err-clause-lints g c held told =
    stopped c.args.args.now held c.in-Err.failure.cause
    (at_held (λ (file : Option (List ℕ)). StopsModel (lint_opts c.args.args.now) file c.in-Err.failure.cause) _ held told c.in-Err.ensures.stops)

pub returns-in-Err-clause-prints : goal.returns-in-Err-clause-prints
returns-in-Err-clause-prints g c held told = unprinted c.args.args.now held c.in-Err.failure.cause _ _
