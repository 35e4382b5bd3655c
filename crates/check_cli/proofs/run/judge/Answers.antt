use Rattle.std.proofs.Common.{◌≡◌, Err, ap, subst, sym, ◌∙◌}
use Rattle.model_parse.specs.RawModels.{AreOpts}
use Rattle.command_line.proofs.OptsLemmas.{same_opts}
use Rattle.proof_check.specs.Checks.{IsCheckOf}
use Rattle.check_cli.specs.believed.Runs.{Inputs}
use Rattle.check_cli.proofs.RunEnds.{check_stops}
use Rattle.check_cli.proofs.run.judge.Goals as goal

pub check_bytes-requires-clause-opts : goal.check_bytes-requires-clause-opts
check_bytes-requires-clause-opts g c = λ _ _. subst AreOpts (sym (same_opts c.args.opts.now.opts)) c.requires.fit.opts

pub returns-in-Err-clause-answers : goal.returns-in-Err-clause-answers
returns-in-Err-clause-answers g c = λ held read.
    let opts = c.args.opts.now.opts in
    let given : Inputs = record { model = c.as_slice.result.now; report = c.as_slice-2.result.now; proof = c.as_slice-3.result.now } in
    let same : given ≡ c.args.contents.now =
    ap (λ m. record { model = m; report = c.as_slice-2.result.now; proof = c.as_slice-3.result.now }) c.as_slice.ensures.value
    ∙ ap (λ r. record { model = c.contents.inside.model.items; report = r; proof = c.as_slice-3.result.now }) c.as_slice-2.ensures.value
    ∙ ap (λ p. record { model = c.contents.inside.model.items; report = c.contents.inside.report.items; proof = p }) c.as_slice-3.ensures.value
    ∙ c.contents.view_is in
    check_stops opts held c.args.contents.now c.in-Err.fault c.stop_of_check.result read
    (subst (λ i. IsCheckOf opts i.model i.report i.proof (Err c.in-Err.fault)) same c.in-Err.ensures) c.stop_of_check.ensures
