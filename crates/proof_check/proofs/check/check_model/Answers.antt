use Rattle.std.proofs.Common.{rules, ◌≡◌, sym, subst}
use Rattle.std.specs.Prelude.{Err}
use Rattle.proof_check.specs.CheckSteps.{IsModelCheckOf}
use Rattle.proof_check.specs.Faults.{fault_of_rows}
use Rattle.proof_check.proofs.FaultLemmas.{of_report}
use Rattle.proof_check.proofs.check.check_model.Goals as goal

pub returns-in_err-verdict : goal.returns-in_err-verdict
returns-in_err-verdict g c =
    let is : c.from_residual-in_err-verdict.result ≡ Err (fault_of_rows c.in_err-verdict.field-0.0) = search rules in
    subst (IsModelCheckOf c.args.model.now c.args.report.now c.args.proof.now) (sym is)
    (of_report c.args.model.now c.args.report.now c.args.proof.now c.in_ok-plan.ensures.within c.in_err-verdict.field-0.0 c.in_err-verdict.ensures)

pub returns : goal.returns
returns g c = (c.in_ok-plan.ensures.within, c.in_ok-verdict.ensures)
