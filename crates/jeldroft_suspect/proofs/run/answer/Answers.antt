use Rattle.std.proofs.Common.{subst, sym, ◌∙◌}
use Rattle.jeldroft_files.specs.believed.Failures.{status_of}
use Rattle.jeldroft_files.specs.believed.Models.{opts_of}
use Rattle.jeldroft_files.specs.Runs.{IsCalledFor, answer_seen}
use Rattle.jeldroft_inputs.proofs.Calling.{called_for, called_unread, seen_failed}
use Rattle.jeldroft_suspect.specs.believed.Due.{Due, text_of}
use Rattle.jeldroft_suspect.proofs.run.answer.Goals as goal
use Rattle.value_text.proofs.ListLemmas.{at_held}

pub returns-in_err-model-clause-due : goal.returns-in_err-model-clause-due
returns-in_err-model-clause-due g c = λ model table told told_table.
    let args = c.args.args.now in
    let failure = c.in_err-model.field-0.0 in
    subst (IsCalledFor status_of (Due args model table)) (sym (seen_failed c.from_residual.result failure c.from_residual.ensures.1))
    (called_unread (opts_of args.model args.strength) model (λ m. text_of args m table) failure.cause (at_held _ _ model told c.in_err-model.ensures.stops))

pub returns-clause-due : goal.returns-clause-due
returns-clause-due g c = λ model table told told_table.
    let args = c.args.args.now in
    called_for (opts_of args.model args.strength) model (λ m. text_of args m table) c.in_ok-model.model c.in_ok-model.found
    (at_held _ _ model told c.in_ok-model.ensures.model.1) (answer_seen c.text_of.result)
    (c.text_of.ensures.due table (c.read_model_file.ensures.files args.results ∙ told_table))

pub returns-clause-files : goal.returns-clause-files
returns-clause-files g c = λ name. c.text_of.ensures.files name ∙ c.read_model_file.ensures.files name
