-- What the files of `jeldroft check` call for: a verdict, or none, and how the command tells it. (This project's rule.)
use Rattle.std.specs.Prelude.{◌≡◌, ◌⊎◌, Bool, ℕ, List, Option, Some, None, Result, Ok, Err, codes}
use Rattle.outside_io.specs.believed.Files.{Files}
use Rattle.cov_model.specs.believed.Sound.{ModelView}
use Rattle.definitions.specs.believed.RowReading.{RowReading, RowsFault}
use Rattle.definitions.specs.believed.Verdict.{Verdict, Accepted, BadRow, BadProof, BadOmission, Uncovered, verdict, verdict_text}
use Rattle.model_lex.specs.declared.options.ModelOpts.{ModelOpts}
use Rattle.model_lex.specs.declared.fault.ModelFault.{ModelFault}
use Rattle.tuple_index.specs.believed.PlanFault.{limit_passed}
use Rattle.tuple_index.specs.declared.fault.PlanFault.{PlanFault}
use Rattle.type_check.specs.believed.ModelOf.{IsRefusalOf}
use Rattle.comma_rows.specs.declared.comma_fault.CommaFault.{CommaFault}
use Rattle.command_line.specs.believed.Stops.{stop_of_model, stop_of_plan}
use Rattle.command_line.specs.declared.files.FileKind.TheVariants as kinds
use Rattle.command_line.specs.declared.stop.Stop.{Stop}
use Rattle.proof_check.specs.believed.Checks.{Spells, report_of}
use Rattle.check_cli.specs.believed.Runs.{HeldFiles, Inputs, bytes_of, stop_of_report}
use Rattle.jeldroft_args.specs.declared.check.Check.{Check}
use Rattle.jeldroft_files.specs.believed.Failures.{status_of}
use Rattle.jeldroft_files.specs.believed.Models.{opts_of}
use Rattle.jeldroft_files.specs.believed.Runs.{IsPrinted, Moment}
use Rattle.jeldroft_files.specs.believed.Tables.{as_tabs, is_comma}
use Rattle.jeldroft_files.specs.declared.failure.Cause.{Cause}
use Rattle.jeldroft_files.specs.declared.failure.Cause.TheVariants as causes

-- ---- the files

-- a proof without omissions
abbrev pub no_omissions : List ℕ
no_omissions = codes "pict-proof 1\n"

-- what is told of the proof: where none is named, it is as if there were one without omissions
abbrev pub proof_told : Files → Option (List ℕ) → Option (Option (List ℕ))
proof_told files None = Some (Some no_omissions)
proof_told files (Some name) = files name

-- the folder tells what the files hold
pub record Holds (files : Files) (args : Check) (held : HeldFiles) : Type 0 where
  pub model : files args.model.name ≡ Some held.model
  pub report : files args.table ≡ Some held.report
  pub proof : proof_told files args.proof ≡ Some held.proof

-- the bytes of a file, or the cause for which it can't be read
abbrev pub or_cause : Result (List ℕ) Stop → Result (List ℕ) Cause
or_cause (Ok bytes) = Ok bytes
or_cause (Err stop) = Err (causes.Stop stop)

abbrev pub or_comma : Result (List ℕ) CommaFault → Result (List ℕ) Cause
or_comma (Ok table) = Ok table
or_comma (Err fault) = Err (causes.Comma fault)

-- those of the table, with tabs between its cells
abbrev pub in_tabs : Bool → Result (List ℕ) Stop → Result (List ℕ) Cause
in_tabs comma (Ok bytes) = or_comma (as_tabs comma bytes)
in_tabs comma (Err stop) = Err (causes.Stop stop)

-- the bytes of all three, or the cause of the first that can't be read
abbrev pub join_bytes : Result (List ℕ) Cause → Result (List ℕ) Cause → Result (List ℕ) Cause → Result Inputs Cause
join_bytes (Err cause) report proof = Err cause
join_bytes (Ok model) (Err cause) proof = Err cause
join_bytes (Ok model) (Ok report) (Err cause) = Err cause
join_bytes (Ok model) (Ok report) (Ok proof) = Ok (record { model = model; report = report; proof = proof })

abbrev pub inputs_of : Check → HeldFiles → Result Inputs Cause
inputs_of args held =
    join_bytes (or_cause (bytes_of kinds.Model held.model)) (in_tabs (is_comma args.delimiter args.table) (bytes_of kinds.Rows held.report))
    (or_cause (bytes_of kinds.Proof held.proof))

-- ---- the verdict

-- the model file spells a model, which passes no limit, the table is read as a whole suite, and P holds of the model, the
-- rows of the table with their lines, and the proof
pub record IsJudged (opts : ModelOpts) (inputs : Inputs) (P : ModelView → List (ℕ × List (Option ℕ)) → List ℕ → Type 0) : Type 0 where
  pub model : ModelView
  pub spelled : Spells opts inputs.model model
  pub within : limit_passed model ≡ None
  pub report : RowReading
  pub reported : report_of model inputs.report ≡ Ok report
  pub holds : P model report.rows inputs.proof

-- why there is no verdict: the model file is refused, its model passes a limit, or the table is refused
pub data IsRefused (opts : ModelOpts) (inputs : Inputs) (stop : Stop) : Type 0 where
  bad_model : (fault : ModelFault) → IsRefusalOf opts inputs.model fault → stop ≡ stop_of_model fault → IsRefused opts inputs stop
  too_many :
      (m : ModelView) (fault : PlanFault) → Spells opts inputs.model m → limit_passed m ≡ Some fault → stop ≡ stop_of_plan fault
      → IsRefused opts inputs stop
  bad_table :
      (m : ModelView) (fault : RowsFault) → Spells opts inputs.model m → limit_passed m ≡ None → report_of m inputs.report ≡ Err fault
      → stop ≡ stop_of_report fault → IsRefused opts inputs stop

-- all three files can be read, and P holds of the model, the rows and the proof
abbrev pub HasReadings : Check → (ModelView → List (ℕ × List (Option ℕ)) → List ℕ → Type 0) → HeldFiles → Type 0
HasReadings args P held = (inputs : Inputs) × (inputs_of args held ≡ Ok inputs) × IsJudged (opts_of args.model args.strength) inputs P

-- one of them can't be read, or there is no verdict on their bytes
pub data FilesAreRefused (args : Check) (held : HeldFiles) (cause : Cause) : Type 0 where
  unread : inputs_of args held ≡ Err cause → FilesAreRefused args held cause
  unjudged :
      (inputs : Inputs) (stop : Stop) → inputs_of args held ≡ Ok inputs → IsRefused (opts_of args.model args.strength) inputs stop
      → cause ≡ causes.Stop stop → FilesAreRefused args held cause

-- what files call for: their verdict, or the cause for which they have none
abbrev pub Due : Check → HeldFiles → Result Verdict Cause → Type 0
Due args held (Ok given) = HasReadings args (λ m lines proof. verdict m lines proof ≡ given) held
Due args held (Err cause) = FilesAreRefused args held cause

-- ---- how it is told

-- 0 where a verdict accepts, 1 where it refuses
abbrev pub verdict_status : Verdict → ℕ
verdict_status (Accepted rows omissions) = 0
verdict_status (BadRow line) = 1
verdict_status (BadProof line) = 1
verdict_status (BadOmission line) = 1
verdict_status (Uncovered tuple) = 1

-- what the command does, where `Due` tells which verdict, or which cause for none, the files call for
pub record ChecksAs (Due : Result Verdict Cause → Type 0) (before after : Moment) (status : ℕ) : Type 0 where
  -- 0 and 1: they call for a verdict, whose status it is, and its line was printed
  pub told : (status ≡ 0) ⊎ (status ≡ 1) → (given : Verdict) × Due (Ok given) × (status ≡ verdict_status given) × IsPrinted (verdict_text given) before.out after.out
  -- 2: for none
  pub refused : status ≡ 2 → (cause : Cause) × Due (Err cause)
  -- and what they call for comes, unless memory or a device fails
  pub verdict_comes : (given : Verdict) → Due (Ok given) → (status ≡ verdict_status given) ⊎ (status ≡ 3)
  pub refusal_comes : (cause : Cause) → Due (Err cause) → (status ≡ status_of cause) ⊎ (status ≡ 3)
