-- What a run of the checker does with the files that it reads. (The steps, their order and their statuses are this
-- project's rules.)
use Rattle.std.specs.List.{list_any}
use Rattle.std.specs.Prelude.{◌≡◌, true, ℕ, List, [], ◌∷◌, ◌==◌, length, nat_lt, Option, Some, None, Result, Ok, Err, if◌then◌else◌}
use Rattle.outside_io.specs.declared.answers.WriteAnswer.TheVariants.{Done, Failed}
use Rattle.outside_io.specs.believed.Files.{Files}
use Rattle.outside_io.specs.believed.Seen.{FolderSeen, SinkSeen, ReadFaultsRose}
use Rattle.outside_io.specs.believed.Puts.{Puts}
use Rattle.cov_model.specs.believed.Sound.{ModelView}
use Rattle.definitions.specs.believed.Limits.{most_bytes}
use Rattle.definitions.specs.believed.RowReading.{RowReading, RowsFault, NoHeader, Twice, Missing, TooManyRows, Width}
use Rattle.definitions.specs.believed.Verdict as defined
use Rattle.definitions.specs.believed.Verdict.{verdict, verdict_text}
use Rattle.model_lex.specs.declared.options.ModelOpts.{ModelOpts}
use Rattle.model_lex.specs.declared.fault.ModelFault.{ModelFault}
use Rattle.tuple_index.specs.believed.PlanFault.{limit_passed}
use Rattle.tuple_index.specs.declared.fault.PlanFault.{PlanFault}
use Rattle.row_text.specs.declared.rows_fault.RowsFault.TheVariants as told_faults
use Rattle.type_check.specs.believed.ModelOf.{IsRefusalOf}
use Rattle.command_line.specs.believed.Stops.{NamesView, measured, name_of, status_of, stop_of_model, stop_of_plan}
use Rattle.command_line.specs.believed.Told.{Tells, end_text}
use Rattle.command_line.specs.declared.stop.Stop.{Stop}
use Rattle.command_line.specs.declared.stop.Stop.TheVariants.{OutOfMemory, BadRows, CannotRead, CannotWriteReport, TooMany, TooLong}
use Rattle.command_line.specs.declared.stop.Quantity.TheVariants.{Rows}
use Rattle.command_line.specs.declared.files.FileKind.{FileKind}
use Rattle.command_line.specs.declared.files.FileKind.TheVariants as kinds
use Rattle.proof_check.specs.believed.Checks.{Spells, report_of, verdict_given}
use Rattle.proof_check.specs.declared.verdict.Verdict.{Verdict}
use Rattle.proof_check.specs.declared.verdict.Verdict.TheVariants.{Accepted, BadRow, BadProof, BadOmission, Uncovered}

-- what the names of the model file, the report and the proof file hold: a file, or none
pub record HeldFiles : Type 0 where
  pub model : Option (List ℕ)
  pub report : Option (List ℕ)
  pub proof : Option (List ℕ)

-- the folder tells what these names hold
pub record Holds (files : Files) (names : NamesView) (held : HeldFiles) : Type 0 where
  pub model : files names.model ≡ Some held.model
  pub report : files names.rows ≡ Some held.report
  pub proof : files names.proof ≡ Some held.proof

-- the bytes of the three files
pub record Inputs : Type 0 where
  pub model : List ℕ
  pub report : List ℕ
  pub proof : List ℕ

-- the bytes of a file of this kind, or why it can't be read: there is none, or it has more bytes than it may
abbrev pub bytes_of : FileKind → Option (List ℕ) → Result (List ℕ) Stop
bytes_of kind None = Err (CannotRead kind)
bytes_of kind (Some bytes) = if nat_lt (most_bytes (measured kind)) (length bytes) then Err (TooLong kind) else Ok bytes

-- the bytes of all three, or why the first of them that can't be read can't
abbrev pub join_bytes : Result (List ℕ) Stop → Result (List ℕ) Stop → Result (List ℕ) Stop → Result Inputs Stop
join_bytes (Err stop) report proof = Err stop
join_bytes (Ok model) (Err stop) proof = Err stop
join_bytes (Ok model) (Ok report) (Err stop) = Err stop
join_bytes (Ok model) (Ok report) (Ok proof) = Ok (record { model = model; report = report; proof = proof })

abbrev pub inputs_of : HeldFiles → Result Inputs Stop
inputs_of held = join_bytes (bytes_of kinds.Model held.model) (bytes_of kinds.Rows held.report) (bytes_of kinds.Proof held.proof)

-- files have their readings: all three can be read, the model file spells a model, which passes no limit, and the report
-- is read as a whole suite; and P holds of the model, the rows of the report with their lines, and the bytes of the proof
pub record HasReadings (opts : ModelOpts) (P : ModelView → List (ℕ × List (Option ℕ)) → List ℕ → Type 0) (held : HeldFiles) : Type 0 where
  pub inputs : Inputs
  pub read : inputs_of held ≡ Ok inputs
  pub model : ModelView
  pub spelled : Spells opts inputs.model model
  pub within : limit_passed model ≡ None
  pub report : RowReading
  pub reported : report_of model inputs.report ≡ Ok report
  pub holds : P model report.rows inputs.proof

-- the stop of a report that is refused
abbrev pub stop_of_report : RowsFault → Stop
stop_of_report NoHeader = BadRows told_faults.NoHeader
stop_of_report (Twice line) = BadRows (told_faults.Twice line)
stop_of_report (Missing p) = BadRows (told_faults.Missing p)
stop_of_report (TooManyRows count) = TooMany Rows count
stop_of_report (Width line) = BadRows (told_faults.Width line)

-- they have them, whatever the rows and the proof are
abbrev pub AreRead : ModelOpts → HeldFiles → Type 0
AreRead opts held = HasReadings opts (λ m lines proof. Unit {0}) held

-- why files have no readings, the first cause in the order of a run: one can't be read, the model file is refused, its
-- model passes a limit, or the report is refused
pub data FilesAreRefused (opts : ModelOpts) (held : HeldFiles) (stop : Stop) : Type 0 where
  unread : inputs_of held ≡ Err stop → FilesAreRefused opts held stop
  bad_model :
      (inputs : Inputs) (fault : ModelFault) → inputs_of held ≡ Ok inputs → IsRefusalOf opts inputs.model fault
      → stop ≡ stop_of_model fault → FilesAreRefused opts held stop
  too_many :
      (inputs : Inputs) (m : ModelView) (fault : PlanFault) → inputs_of held ≡ Ok inputs → Spells opts inputs.model m
      → limit_passed m ≡ Some fault → stop ≡ stop_of_plan fault → FilesAreRefused opts held stop
  bad_report :
      (inputs : Inputs) (m : ModelView) (fault : RowsFault) → inputs_of held ≡ Ok inputs → Spells opts inputs.model m
      → limit_passed m ≡ None → report_of m inputs.report ≡ Err fault → stop ≡ stop_of_report fault → FilesAreRefused opts held stop

-- the status of a verdict: 0 where it accepts, 10 where it refuses
abbrev pub verdict_status : defined.Verdict → ℕ
verdict_status (defined.Accepted rows omissions) = 0
verdict_status (defined.BadRow line) = 10
verdict_status (defined.BadProof line) = 10
verdict_status (defined.BadOmission line) = 10
verdict_status (defined.Uncovered tuple) = 10

-- the status and the line of a verdict as the program has it
abbrev pub answer_status : Verdict → ℕ
answer_status (Accepted rows omissions) = 0
answer_status (BadRow line) = 10
answer_status (BadProof line) = 10
answer_status (BadOmission line) = 10
answer_status (Uncovered pairs) = 10

-- how a run on files may end, and what the output got: it ended with the verdict, whose line was written whole,
-- or in part where the output failed; else nothing was written, for want of memory, where the folder failed, or because
-- the files are refused
abbrev pub Ends : ModelOpts → HeldFiles → SinkSeen → SinkSeen → Result Verdict Stop → Type 0
Ends opts held before after (Ok given) =
    HasReadings opts (λ m lines proof. (given ≡ verdict_given (verdict m lines proof)) × Puts Done before after (verdict_text (verdict m lines proof))) held
Ends opts held before after (Err CannotWriteReport) = HasReadings opts (λ m lines proof. Puts Failed before after (verdict_text (verdict m lines proof))) held
Ends opts held before after (Err OutOfMemory) = after ≡ before
Ends opts held before after (Err (CannotRead kind)) = after ≡ before
Ends opts held before after (Err stop) = FilesAreRefused opts held stop × (after ≡ before)

-- the status of an end
abbrev pub end_status : Result Verdict Stop → ℕ
end_status (Ok given) = answer_status given
end_status (Err stop) = status_of stop

-- the count of faults of reading one of the three files rose
abbrev pub ReadsRose : NamesView → FolderSeen → FolderSeen → Type 0
ReadsRose names before after = (kind : FileKind) × ReadFaultsRose (name_of names kind) before after

-- a file of this kind was named as one that can't be read, and its count of faults rose
abbrev pub ReadFaults : NamesView → FolderSeen → FolderSeen → Result Verdict Stop → Type 0
ReadFaults names before after end = (kind : FileKind) → end ≡ Err (CannotRead kind) → ReadFaultsRose (name_of names kind) before after

-- a run on files of these names: how it ended, what it told, and its status
pub record IsRun (opts : ModelOpts) (names : NamesView) (folder folder_after : FolderSeen) (out out_after told_before told_after : SinkSeen) (status : ℕ) : Type 0 where
  pub end : Result Verdict Stop
  pub ends : (held : HeldFiles) → Holds folder.files names held → Ends opts held out out_after end
  pub read : ReadFaults names folder folder_after end
  pub tells : Tells told_before told_after (end_text names end)
  pub ended : status ≡ end_status end

-- what the verdict of files says is told: by the status, and whole on the output
abbrev pub IsTold : SinkSeen → SinkSeen → ℕ → defined.Verdict → Type 0
IsTold before after status given = (status ≡ verdict_status given) × Puts Done before after (verdict_text given)

-- the statuses that a run may end with, and those that come with a verdict
abbrev pub IsStatus : ℕ → Type 0
IsStatus status = list_any (λ s. s == status) (0 ∷ 1 ∷ 3 ∷ 4 ∷ 5 ∷ 6 ∷ 7 ∷ 8 ∷ 9 ∷ 10 ∷ []) ≡ true

abbrev pub HasVerdict : ℕ → Type 0
HasVerdict status = list_any (λ s. s == status) (0 ∷ 10 ∷ []) ≡ true

-- and those with which files are refused
abbrev pub IsRefusal : ℕ → Type 0
IsRefusal status = list_any (λ s. s == status) (4 ∷ 5 ∷ 6 ∷ 9 ∷ []) ≡ true
