use Rattle.std.proofs.Common.{◌∙◌}
use Rattle.command_line.specs.believed.Loading.{IsLoaded}
use Rattle.jeldroft_files.specs.believed.Models.{StopsModel, opts_of}
use Rattle.jeldroft_generate.proofs.Reading.{cause_given, model_given}
use Rattle.jeldroft_generate.proofs.SeedLemmas.{told_kept}
use Rattle.jeldroft_generate.proofs.Steps.{calls_for, calls_for_none}
use Rattle.jeldroft_generate.proofs.answer.answer.Goals as goal
use Rattle.value_text.proofs.ListLemmas.{at_held}

pub returns-in-Ok-clause-answers : goal.returns-in-Ok-clause-answers
returns-in-Ok-clause-answers g c = λ held is.
    let args = c.args.args.now in
    let opts = opts_of args.model args.strength in
    let m = c.in-Ok.file.model in
    let folder = (g.F.Folder.seen c.args.files.now).files in
    let read = (g.F.Folder.seen c.read_model_text.new.files).files in
    calls_for args held m c.make_of_model-made.result
    (model_given opts held.model m c.in-Ok.file.notes
    (at_held (λ found. IsLoaded opts found m c.in-Ok.file.notes) (folder args.model.name) held.model is.model c.in-Ok.ensures.model.1))
    (c.make_of_model-made.ensures.made held.seeds (told_kept args.seeds folder read held.seeds c.read_model_text.ensures.files is.seeds))

pub returns-in-Ok-clause-files : goal.returns-in-Ok-clause-files
returns-in-Ok-clause-files g c = λ name. c.make_of_model-made.ensures.files name ∙ c.read_model_text.ensures.files name

pub returns-in-Err-clause-answers : goal.returns-in-Err-clause-answers
returns-in-Err-clause-answers g c = λ held is.
    let args = c.args.args.now in
    let opts = opts_of args.model args.strength in
    let cause = c.in-Err.failure.cause in
    calls_for_none args held cause
    (cause_given opts held.model cause (at_held (λ found. StopsModel opts found cause) ((g.F.Folder.seen c.args.files.now).files args.model.name) held.model is.model c.in-Err.ensures.stops))
