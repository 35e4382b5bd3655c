-- The steps of `jeldroft check`. (How this crate works.)
use Rattle.std.specs.Prelude.{◌≡◌, ◌⊎◌, ℕ, List, Result, Ok, Err}
use Rattle.std.specs.Global.{Vec}
use Rattle.outside_io.specs.believed.Seen.{SinkSeen}
use Rattle.definitions.specs.believed.Verdict as defined
use Rattle.definitions.specs.believed.Verdict.{verdict, verdict_text}
use Rattle.model_lex.specs.declared.options.ModelOpts.{ModelOpts}
use Rattle.proof_check.specs.believed.Checks.{verdict_given}
use Rattle.proof_check.specs.declared.verdict.Verdict.{Verdict}
use Rattle.proof_check.specs.declared.verdict.Verdict.TheVariants.{Accepted, BadRow, BadProof, BadOmission, Uncovered}
use Rattle.command_line.specs.declared.stop.Stop.{Stop}
use Rattle.check_cli.specs.believed.Runs.{HeldFiles, Inputs}
use Rattle.jeldroft_args.specs.declared.check.Check.{Check}
use Rattle.jeldroft_files.specs.believed.Failures.{status_of}
use Rattle.jeldroft_files.specs.believed.Runs.{IsPrinted}
use Rattle.jeldroft_files.specs.declared.failure.Cause.{Cause}
use Rattle.jeldroft_files.specs.declared.failure.Cause.TheVariants as causes
use Rattle.jeldroft_files.specs.declared.failure.Failure.{Failure}
use Rattle.jeldroft_files.specs.declared.table.TableText.{TableText}
use Rattle.jeldroft_check.specs.believed.Runs.{Due, IsJudged, IsRefused}

-- memory or a device failed, or the cause is the one that is called for
abbrev pub FailsBy : (Cause → Type 0) → Cause → Type 0
FailsBy called cause = (status_of cause ≡ 3) ⊎ called cause

-- a file is read as this says
abbrev pub ReadsAs : Result (List ℕ) Cause → Result (Vec ℕ) Failure → Type 0
ReadsAs due (Ok bytes) = due ≡ Ok bytes.items
ReadsAs due (Err failure) = FailsBy (λ cause. due ≡ Err cause) failure.cause

abbrev pub ReadsTableAs : Result (List ℕ) Cause → Result TableText Failure → Type 0
ReadsTableAs due (Ok text) = due ≡ Ok text.tabs.items
ReadsTableAs due (Err failure) = FailsBy (λ cause. due ≡ Err cause) failure.cause

-- the bytes of the three files are judged
abbrev pub Judges : ModelOpts → Inputs → Result Verdict Failure → Type 0
Judges opts inputs (Ok given) = IsJudged opts inputs (λ m lines proof. given ≡ verdict_given (verdict m lines proof))
Judges opts inputs (Err failure) = FailsBy (λ cause. (stop : Stop) × IsRefused opts inputs stop × (cause ≡ causes.Stop stop)) failure.cause

-- the files get the verdict that they call for
abbrev pub Answers : Check → HeldFiles → Result Verdict Failure → Type 0
Answers args held (Ok given) = (due : defined.Verdict) × Due args held (Ok due) × (given ≡ verdict_given due)
Answers args held (Err failure) = FailsBy (λ cause. Due args held (Err cause)) failure.cause

-- and its line was printed
abbrev pub Ends : Check → HeldFiles → SinkSeen → SinkSeen → Result Verdict Failure → Type 0
Ends args held before after (Ok given) = (due : defined.Verdict) × Due args held (Ok due) × (given ≡ verdict_given due) × IsPrinted (verdict_text due) before after
Ends args held before after (Err failure) = FailsBy (λ cause. Due args held (Err cause)) failure.cause

-- the status of a verdict as the program has it
abbrev pub answer_status : Verdict → ℕ
answer_status (Accepted rows omissions) = 0
answer_status (BadRow line) = 1
answer_status (BadProof line) = 1
answer_status (BadOmission line) = 1
answer_status (Uncovered pairs) = 1

-- the verdict of an end, or its cause
abbrev pub end_seen : Result Verdict Failure → Result Verdict Cause
end_seen (Ok given) = Ok given
end_seen (Err failure) = Err failure.cause

abbrev pub end_status : Result Verdict Failure → ℕ
end_status (Ok given) = answer_status given
end_status (Err failure) = status_of failure.cause
