-- What holds of the answers of checks. (This project's rule.)
use Rattle.std.specs.Prelude.{◌≡◌, ◌≢◌, ℕ, List, Result, Err}
use Rattle.model_lex.specs.declared.options.ModelOpts.{ModelOpts}
use Rattle.proof_check.specs.Checks.{IsCheckOf}
use Rattle.proof_check.specs.declared.verdict.Verdict.{Verdict}
use Rattle.proof_check.specs.declared.verdict.CheckFault.{CheckFault}
use Rattle.proof_check.specs.declared.verdict.CheckFault.TheVariants.{NoMemory}

-- two answers of a check of the same files are one, but for want of memory. So where a file has its refusal, or all
-- have their readings, the check tells this refusal or this verdict, or memory was refused
abbrev pub ChecksHaveOneAnswer : Type 0
ChecksHaveOneAnswer =
    (opts : ModelOpts) (model report proof : List ℕ) (answer other : Result Verdict CheckFault)
    → answer ≢ Err NoMemory → other ≢ Err NoMemory → IsCheckOf opts model report proof answer → IsCheckOf opts model report proof other → answer ≡ other
