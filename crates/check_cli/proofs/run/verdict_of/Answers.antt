use Rattle.std.proofs.Common.{Err, ap, subst, sym}
use Rattle.check_cli.specs.RunSteps.{Answers}
use Rattle.check_cli.proofs.run.verdict_of.Goals as goal
use Rattle.value_text.proofs.ListLemmas.{is_err, one_err}

pub returns-in_err-contents-clause-answers : goal.returns-in_err-contents-clause-answers
returns-in_err-contents-clause-answers g c = λ held holds.
    subst (Answers c.args.opts.now.opts held) (sym (is_err c.from_residual.ensures.1)) (c.in_err-contents.ensures.reads held holds)

pub returns-in_err-contents-clause-read : goal.returns-in_err-contents-clause-read
returns-in_err-contents-clause-read g c = λ kind e.
    c.in_err-contents.ensures.cannot_read kind (ap Err (one_err (is_err c.from_residual.ensures.1) e))

pub returns-clause-answers : goal.returns-clause-answers
returns-clause-answers g c = λ held holds. c.judge.ensures.answers held (c.in_ok-contents.ensures.reads held holds)
