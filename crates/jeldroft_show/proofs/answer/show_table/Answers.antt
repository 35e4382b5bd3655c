use Rattle.std.proofs.Common.{◌≡◌, Err, inl, ap, subst, sym, ◌∙◌}
use Rattle.std.proofs.lemmas.Result.{err_from_is_err_and}
use Rattle.jeldroft_files.specs.believed.Failures.{status_of}
use Rattle.jeldroft_files.specs.believed.Tables.{is_comma}
use Rattle.jeldroft_inputs.specs.Inputs.{EndsBy, HoldsTests}
use Rattle.jeldroft_inputs.specs.believed.Inputs.{tests_of}
use Rattle.value_text.proofs.ListLemmas.{is_err}
use Rattle.jeldroft_show.specs.believed.Due.{rows_shown}
use Rattle.jeldroft_show.specs.Steps.{Gives}
use Rattle.jeldroft_show.proofs.DueLemmas.{rows_ended, rows_given}
use Rattle.jeldroft_show.proofs.answer.show_table.Goals as goal

pub returns-in_err-tests-clause-gives : goal.returns-in_err-tests-clause-gives
returns-in_err-tests-clause-gives g c = λ table holds.
    subst (Gives (rows_shown c.args.form c.args.args.now c.args.model.now table)) (sym (is_err c.from_residual.ensures.1))
    (rows_ended c.args.form c.args.args.now c.args.model.now table c.in_err-tests.field-0.0.cause
    (subst (λ name. EndsBy (λ other. tests_of c.args.model.now (is_comma c.args.args.now.delimiter name) table ≡ Err other) c.in_err-tests.field-0.0.cause)
    c.as_str.ensures.value (c.in_err-tests.ensures.stops table (ap (g.F.Folder.seen c.args.files.now).files c.as_str.ensures.value ∙ holds))))

pub returns-in_err-answer-clause-gives : goal.returns-in_err-answer-clause-gives
returns-in_err-answer-clause-gives g c = λ table holds.
    let failed = err_from_is_err_and c.from_residual-in_err-answer.result c.from_residual-in_err-answer.ensures.1 in
    subst (Gives (rows_shown c.args.form c.args.args.now c.args.model.now table)) (sym failed.1) (inl (ap status_of failed.2))

pub returns-clause-gives : goal.returns-clause-gives
returns-clause-gives g c = λ table holds.
    rows_given c.args.form c.args.args.now c.args.model.now table c.in_ok-tests.tests c.in_ok-answer.answer
    (subst (λ name. HoldsTests c.args.model.now (is_comma c.args.args.now.delimiter name) table c.in_ok-tests.tests) c.as_str.ensures.value
    (c.in_ok-tests.ensures.tests table (ap (g.F.Folder.seen c.args.files.now).files c.as_str.ensures.value ∙ holds))) c.in_ok-answer.ensures
