use Rattle.std.proofs.Common.{subst, sym, ◌∙◌}
use Rattle.command_line.specs.believed.Loading.{IsLoaded}
use Rattle.jeldroft_files.specs.believed.Models.{StopsModel, opts_of}
use Rattle.jeldroft_inputs.proofs.InputLemmas.{cause_given, model_given}
use Rattle.value_text.proofs.ListLemmas.{is_err, at_held}
use Rattle.jeldroft_show.specs.believed.Due.{Due}
use Rattle.jeldroft_show.specs.Steps.{IsCalledFor}
use Rattle.jeldroft_show.proofs.DueLemmas.{due_ended, due_given, suite_kept}
use Rattle.jeldroft_show.proofs.answer.make_answer.Goals as goal

pub returns-in_err-model-clause-due : goal.returns-in_err-model-clause-due
returns-in_err-model-clause-due g c = λ held holds.
    let args = c.args.args.now in
    let opts = opts_of args.model args.strength in
    let cause = c.in_err-model.field-0.0.cause in
    subst (IsCalledFor (Due c.args.form args held)) (sym (is_err c.from_residual.ensures.1))
    (due_ended c.args.form args held cause
    (cause_given opts held.model cause
    (at_held (λ bytes. StopsModel opts bytes cause) ((g.F.Folder.seen c.args.files.now).files args.model.name) held.model holds.model c.in_err-model.ensures.stops)))

pub returns-clause-due : goal.returns-clause-due
returns-clause-due g c = λ held holds.
    let args = c.args.args.now in
    let opts = opts_of args.model args.strength in
    let model = c.in_ok-model.model in
    let notes = c.in_ok-model.found in
    due_given c.args.form args held model
    (model_given opts held.model model notes
    (at_held (λ bytes. IsLoaded opts bytes model notes) ((g.F.Folder.seen c.args.files.now).files args.model.name) held.model holds.model c.in_ok-model.ensures.model.1))
    c.show_suite.result (c.show_suite.ensures.gives held (suite_kept args held (g.F.Folder.seen c.args.files.now) (g.F.Folder.seen c.read_model_file.new.files)
    c.read_model_file.ensures.files holds.suite))

pub returns-clause-files : goal.returns-clause-files
returns-clause-files g c = λ name. c.show_suite.ensures.files name ∙ c.read_model_file.ensures.files name
