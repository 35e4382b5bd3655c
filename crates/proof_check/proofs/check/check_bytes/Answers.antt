use Rattle.proof_check.proofs.FaultLemmas.{of_model}
use Rattle.proof_check.proofs.check.check_bytes.Goals as goal

pub returns : goal.returns
returns g c =
    of_model c.args.opts.now c.args.model.now c.args.report.now c.args.proof.now c.in_ok-model.model (c.in_ok-model._notes, c.in_ok-model.ensures.ok)
    c.check_model.result c.check_model.ensures
