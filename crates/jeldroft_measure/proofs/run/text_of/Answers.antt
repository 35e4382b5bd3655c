use Rattle.std.proofs.Common.{◌≡◌, subst, sym}
use Rattle.row_text.specs.Told.{figures_seen}
use Rattle.jeldroft_files.specs.believed.Failures.{status_of}
use Rattle.jeldroft_files.specs.Runs.{IsCalledFor}
use Rattle.jeldroft_files.specs.believed.Tables.{is_comma}
use Rattle.jeldroft_inputs.proofs.Calling.{called_step, called_stopped, seen_failed}
use Rattle.jeldroft_measure.specs.believed.Due.{effort_of, measured, text_of}
use Rattle.jeldroft_measure.specs.believed.MeasureText.{measure_text}
use Rattle.jeldroft_measure.proofs.run.text_of.Goals as goal

pub returns-in_err-figures-clause-due : goal.returns-in_err-figures-clause-due
returns-in_err-figures-clause-due g c = λ table told.
    let args = c.args.args.now in
    let failure = c.in_err-figures.field-0.0 in
    subst (IsCalledFor status_of (λ due. due ≡ text_of args c.args.model.now table)) (sym (seen_failed c.from_residual.result failure c.from_residual.ensures.1))
    (called_stopped (measured (effort_of args.budget) c.args.model.now (is_comma args.delimiter args.table) table) measure_text failure.cause (c.in_err-figures.ensures.stops table told))

pub returns-clause-due : goal.returns-clause-due
returns-clause-due g c = λ table told.
    let args = c.args.args.now in
    called_step (measured (effort_of args.budget) c.args.model.now (is_comma args.delimiter args.table) table) measure_text (figures_seen c.in_ok-figures.figures)
    c.in_ok-text.text.items (c.in_ok-figures.ensures.figures table told) c.in_ok-text.ensures
