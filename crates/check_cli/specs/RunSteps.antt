-- What the steps of a run of the checker say of each other. (This project's rules.)
use Rattle.std.specs.Prelude.{◌≡◌, ◌≤◌, Bool, true, false, length, Result, Ok, Err}
use Rattle.outside_io.specs.believed.Seen.{SinkSeen, PutFaultsRose}
use Rattle.definitions.specs.believed.Limits.{ModelFile, RowFile, ProofFile, most_bytes}
use Rattle.definitions.specs.believed.Verdict.{verdict}
use Rattle.model_lex.specs.declared.options.ModelOpts.{ModelOpts}
use Rattle.command_line.specs.believed.Stops.{stop_of_model, stop_of_plan}
use Rattle.command_line.specs.Stops.{stop_of_rows}
use Rattle.command_line.specs.declared.stop.Stop.{Stop}
use Rattle.command_line.specs.declared.stop.Stop.TheVariants.{OutOfMemory, Spent, BadWord, BadModel, BadConstraint, BadRows, NoResult, BadResult, CannotRead}
use Rattle.command_line.specs.declared.stop.Stop.TheVariants.{CannotWrite, CannotWriteReport, TooMany, TooLong}
use Rattle.command_line.specs.declared.files.FileKind.{FileKind}
use Rattle.proof_check.specs.believed.Checks.{verdict_given}
use Rattle.check_cli.specs.believed.Runs.{HasReadings, HeldFiles, Inputs, FilesAreRefused, inputs_of}
use Rattle.proof_check.specs.declared.verdict.Verdict.{Verdict}
use Rattle.proof_check.specs.declared.verdict.CheckFault.{CheckFault}
use Rattle.proof_check.specs.declared.verdict.CheckFault.TheVariants as check_faults

-- the stop of a fault of a check
abbrev pub stop_of_check : CheckFault → Stop
stop_of_check (check_faults.BadModel fault) = stop_of_model fault
stop_of_check (check_faults.Limits fault) = stop_of_plan fault
stop_of_check (check_faults.Report fault) = stop_of_rows fault
stop_of_check check_faults.NoMemory = OutOfMemory

-- the files have no more bytes than they may
pub record FitLimits (inputs : Inputs) : Type 0 where
  pub model : length inputs.model ≤ most_bytes ModelFile
  pub report : length inputs.report ≤ most_bytes RowFile
  pub proof : length inputs.proof ≤ most_bytes ProofFile

-- why a run may stop before anything is written: for want of memory, where the folder failed, or because the files
-- are refused
pub data StopsBefore (opts : ModelOpts) (held : HeldFiles) (stop : Stop) : Type 0 where
  no_memory : stop ≡ OutOfMemory → StopsBefore opts held stop
  cannot_read : (kind : FileKind) → stop ≡ CannotRead kind → StopsBefore opts held stop
  is_refused : FilesAreRefused opts held stop → StopsBefore opts held stop

-- a stop of the words, of the search or of what is written isn't one of these
abbrev pub is_before : Stop → Bool
is_before OutOfMemory = true
is_before (Spent budget question) = false
is_before (BadWord index) = false
is_before (BadModel diag) = true
is_before (BadConstraint diag) = true
is_before (BadRows fault) = true
is_before NoResult = false
is_before (BadResult line) = false
is_before (CannotRead kind) = true
is_before (CannotWrite kind) = false
is_before CannotWriteReport = false
is_before (TooMany quantity count) = true
is_before (TooLong kind) = true

-- the reading of files gives their bytes, and the check of them its verdict, unless the run stops
abbrev pub Reads : ModelOpts → HeldFiles → Result Inputs Stop → Type 0
Reads opts held (Ok inputs) = inputs_of held ≡ Ok inputs
Reads opts held (Err stop) = StopsBefore opts held stop

abbrev pub Answers : ModelOpts → HeldFiles → Result Verdict Stop → Type 0
Answers opts held (Ok given) = HasReadings opts (λ m lines proof. given ≡ verdict_given (verdict m lines proof)) held
Answers opts held (Err stop) = StopsBefore opts held stop

-- the count of faults of the output: it rose where the output couldn't be written, and else it stays
abbrev pub CountsOut : Result Verdict Stop → SinkSeen → SinkSeen → Type 0
CountsOut (Err CannotWriteReport) before after = PutFaultsRose before after
CountsOut end before after = after.faults ≡ before.faults
