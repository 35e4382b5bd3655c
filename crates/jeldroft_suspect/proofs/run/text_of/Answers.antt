use Rattle.std.proofs.Common.{◌≡◌, map, ap, subst, sym, ◌∙◌}
use Rattle.suspect_tuples.specs.Told.{found_seen, suspects_seen}
use Rattle.jeldroft_files.specs.believed.Failures.{status_of}
use Rattle.jeldroft_files.specs.Runs.{IsCalledFor}
use Rattle.jeldroft_inputs.proofs.Calling.{called_step, called_stopped, seen_failed}
use Rattle.jeldroft_suspect.specs.believed.Due.{suspected, text_of}
use Rattle.jeldroft_suspect.specs.believed.SuspectsText.{suspects_text}
use Rattle.jeldroft_suspect.proofs.run.text_of.Goals as goal

pub returns-in_err-suspects-clause-due : goal.returns-in_err-suspects-clause-due
returns-in_err-suspects-clause-due g c = λ table told.
    let args = c.args.args.now in
    let m = c.args.model.now in
    let failure = c.in_err-suspects.field-0.0 in
    subst (IsCalledFor status_of (λ due. due ≡ text_of args m table)) (sym (seen_failed c.from_residual.result failure c.from_residual.ensures.1))
    (called_stopped (suspected args m table) (λ told. suspects_text m told.found) failure.cause (c.in_err-suspects.ensures.stops table told))

pub returns-clause-due : goal.returns-clause-due
returns-clause-due g c = λ table told.
    let args = c.args.args.now in
    let m = c.args.model.now in
    called_step (suspected args m table) (λ told. suspects_text m told.found) (suspects_seen c.in_ok-suspects.suspects)
    c.in_ok-text.text.items (c.in_ok-suspects.ensures.found table told)
    (c.in_ok-text.ensures ∙ ap (λ list. suspects_text m (map found_seen list)) c.as_slice.ensures)
