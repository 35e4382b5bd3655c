use Rattle.std.proofs.Common.{◌≡◌, Err, inl, ap, subst, sym, ◌∙◌}
use Rattle.std.proofs.lemmas.Result.{err_from_is_err_and}
use Rattle.jeldroft_files.specs.believed.Failures.{status_of}
use Rattle.jeldroft_files.specs.believed.Tables.{is_comma}
use Rattle.jeldroft_inputs.specs.Inputs.{EndsBy, HoldsTests}
use Rattle.jeldroft_inputs.specs.believed.Inputs.{tests_of}
use Rattle.row_text.specs.RowFiles.{seeds_seen, suite_seen}
use Rattle.value_text.proofs.ListLemmas.{is_err}
use Rattle.jeldroft_show.specs.believed.Due.{shown_words, words_shown}
use Rattle.jeldroft_show.specs.Steps.{Gives}
use Rattle.jeldroft_show.proofs.DueLemmas.{limit_ends, proof_ends, suite_kept, tests_end, words_given}
use Rattle.jeldroft_show.proofs.judged.show_words.Goals as goal

pub returns-in_err-plan-clause-gives : goal.returns-in_err-plan-clause-gives
returns-in_err-plan-clause-gives g c = λ held holds.
    subst (Gives (words_shown c.args.args.now c.args.model.now held)) (sym (is_err c.from_residual.ensures.1))
    (limit_ends c.args.args.now c.args.model.now held c.in_err-plan.field-0.0.cause c.in_err-plan.ensures.stops)

pub returns-in_err-tests-clause-gives : goal.returns-in_err-tests-clause-gives
returns-in_err-tests-clause-gives g c = λ held holds.
    let args = c.args.args.now in
    let m = c.args.model.now in
    let cause = c.in_err-tests.field-0.0.cause in
    subst (Gives (words_shown args m held)) (sym (is_err c.from_residual-in_err-tests.ensures.1))
    (tests_end args m held cause c.in_ok-plan.ensures.within
    (subst (λ name. EndsBy (λ other. tests_of m (is_comma args.delimiter name) held.table ≡ Err other) cause) c.as_str-2.ensures.value
    (c.in_err-tests.ensures.stops held.table (ap (g.F.Folder.seen c.args.files.now).files c.as_str-2.ensures.value ∙ holds.table))))

pub returns-in_err-proof-clause-gives : goal.returns-in_err-proof-clause-gives
returns-in_err-proof-clause-gives g c = λ held holds.
    let args = c.args.args.now in
    let m = c.args.model.now in
    let cause = c.in_err-proof.field-0.0.cause in
    subst (Gives (words_shown args m held)) (sym (is_err c.from_residual-in_err-proof.ensures.1))
    (proof_ends args m held c.in_ok-tests.tests cause c.in_ok-plan.ensures.within
    (subst (λ name. HoldsTests m (is_comma args.delimiter name) held.table c.in_ok-tests.tests) c.as_str-2.ensures.value
    (c.in_ok-tests.ensures.tests held.table (ap (g.F.Folder.seen c.args.files.now).files c.as_str-2.ensures.value ∙ holds.table)))
    (c.in_err-proof.ensures.stops held.proof
    (suite_kept args held (g.F.Folder.seen c.args.files.now) (g.F.Folder.seen c.read_tests.new.files) c.in_ok-tests.ensures.files holds).proof))

pub returns-in_err-answer-clause-gives : goal.returns-in_err-answer-clause-gives
returns-in_err-answer-clause-gives g c = λ held holds.
    let failed = err_from_is_err_and c.from_residual-in_err-answer.result c.from_residual-in_err-answer.ensures.1 in
    subst (Gives (words_shown c.args.args.now c.args.model.now held)) (sym failed.1) (inl (ap status_of failed.2))

pub returns-clause-gives : goal.returns-clause-gives
returns-clause-gives g c = λ held holds.
    let args = c.args.args.now in
    let m = c.args.model.now in
    let tests = c.in_ok-tests.tests in
    words_given args m held tests c.in_ok-proof.proof.items c.in_ok-answer.answer c.in_ok-plan.ensures.within
    (subst (λ name. HoldsTests m (is_comma args.delimiter name) held.table tests) c.as_str-2.ensures.value
    (c.in_ok-tests.ensures.tests held.table (ap (g.F.Folder.seen c.args.files.now).files c.as_str-2.ensures.value ∙ holds.table)))
    (c.in_ok-proof.ensures.proof held.proof
    (suite_kept args held (g.F.Folder.seen c.args.files.now) (g.F.Folder.seen c.read_tests.new.files) c.in_ok-tests.ensures.files holds).proof)
    (c.in_ok-answer.ensures ∙ ap (shown_words args m (seeds_seen tests) (suite_seen tests)) c.as_slice.ensures.value)

pub returns-clause-files : goal.returns-clause-files
returns-clause-files g c = λ name. c.in_ok-proof.ensures.files name ∙ c.in_ok-tests.ensures.files name
