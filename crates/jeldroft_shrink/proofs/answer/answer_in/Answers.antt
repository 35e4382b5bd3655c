use Rattle.std.proofs.Common.{◌∙◌}
use Rattle.jeldroft_files.specs.believed.Models.{StopsModel, opts_of}
use Rattle.command_line.specs.believed.Loading.{IsLoaded}
use Rattle.jeldroft_shrink.proofs.ReadLemmas.{holds_after, model_stops, suite_answered, suite_called, told}
use Rattle.jeldroft_shrink.proofs.answer.answer_in.Goals as goal

pub returns-in_err-model-clause-called : goal.returns-in_err-model-clause-called
returns-in_err-model-clause-called g c = λ held holds.
    let args = c.args.args.now in
    model_stops args held c.args.form c.from_residual.result c.in_err-model.field-0.0 c.requires.formed c.from_residual.ensures.1
    (told (λ h. StopsModel (opts_of args.model args.strength) h c.in_err-model.field-0.0.cause) holds.model c.in_err-model.ensures.stops)

pub returns-clause-called : goal.returns-clause-called
returns-clause-called g c = λ held holds.
    let args = c.args.args.now in
    let later = holds_after (g.F.Folder.seen c.args.files.now) (g.F.Folder.seen c.read_model_file.new.files) args held c.read_model_file.ensures.files holds in
    suite_called args held c.args.form (g.F.Folder.seen c.read_model_file.new.files).files c.in_ok-model.model c.suite_of-table.result c.requires.formed (
      c.in_ok-model.model_notes,
      told (λ h. IsLoaded (opts_of args.model args.strength) h c.in_ok-model.model c.in_ok-model.model_notes) holds.model c.in_ok-model.ensures.model.1,
    )
    later c.suite_of-table.ensures.table c.suite_of-table.ensures.stops

pub returns-clause-table : goal.returns-clause-table
returns-clause-table g c =
    let args = c.args.args.now in
    suite_answered args (g.F.Folder.seen c.args.files.now) (g.F.Folder.seen c.read_model_file.new.files) c.args.form c.in_ok-model.model c.requires.formed
    c.read_model_file.ensures.files (λ held holds. (
      c.in_ok-model.model_notes,
      told (λ h. IsLoaded (opts_of args.model args.strength) h c.in_ok-model.model c.in_ok-model.model_notes) holds.model c.in_ok-model.ensures.model.1,
    ))
    c.suite_of-table.result c.suite_of-table.ensures.table

pub returns-clause-files : goal.returns-clause-files
returns-clause-files g c = λ name. c.suite_of-table.ensures.files name ∙ c.read_model_file.ensures.files name
