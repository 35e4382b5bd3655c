use Rattle.std.proofs.Common.{Err, subst, sym}
use Rattle.model_parse.specs.RawModels.{AreOpts}
use Rattle.proof_check.specs.Checks.{IsCheckOf}
use Rattle.jeldroft_files.specs.believed.Models.{opts_of}
use Rattle.jeldroft_files.proofs.Reading.{opts_fit}
use Rattle.jeldroft_check.proofs.Verdicts.{stops}
use Rattle.jeldroft_check.proofs.judging.judge.Goals as goal

pub check_bytes-requires-clause-opts : goal.check_bytes-requires-clause-opts
check_bytes-requires-clause-opts g c κs within =
    subst AreOpts (sym c.opts_of-opts.ensures) (opts_fit c.args.args.now.model c.args.args.now.strength c.requires.marks c.requires.strength)

pub returns-in-Err : goal.returns-in-Err
returns-in-Err g c =
    stops (opts_of c.args.args.now.model c.args.args.now.strength) (record { model = c.args.model.now; report = c.args.table.now; proof = c.args.proof.now })
    c.in-Err.fault c.failure_of.result.cause
    (subst (λ opts. IsCheckOf opts c.args.model.now c.args.table.now c.args.proof.now (Err c.in-Err.fault)) c.opts_of-opts.ensures c.in-Err.ensures) c.failure_of.ensures
