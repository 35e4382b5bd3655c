-- What a run of `pictseq` does with its files. (What is printed follows Kuhn and others 2012; the steps, their order
-- and their statuses are this project's rules.)
use Rattle.std.specs.Prelude.{◌≡◌, ℕ, ◌<◌, ◌≤◌, ◌⊎◌, List, ◌++◌, length, Option, Some, None, Result, Ok, Err, IfSome, IsSomeAnd, IsErrAnd}
use Rattle.outside_io.specs.declared.answers.WriteAnswer.TheVariants.{Done, Failed}
use Rattle.outside_io.specs.believed.Files.{Files}
use Rattle.outside_io.specs.believed.Seen.{FolderSeen, SinkSeen, ReadFaultsRose}
use Rattle.outside_io.specs.believed.Puts.{Puts}
use Rattle.seq_check.specs.believed.Events.{AreEvents, EventsView}
use Rattle.seq_check.specs.believed.EventFile.{events_of}
use Rattle.seq_check.specs.believed.Verdicts.{verdict, verdict_text}
use Rattle.seq_check.specs.declared.fault.EventsFault.{EventsFault}
use Rattle.seq_check.specs.declared.verdict.OrderVerdict.{OrderVerdict}
use Rattle.seq_check.specs.declared.verdict.OrderVerdict.TheVariants as verdicts
use Rattle.seq_cover.specs.believed.Covering.{IsAccepted, IsCovering}
use Rattle.seq_cover.specs.believed.OrderGrowth.{grown}
use Rattle.seq_cover.specs.believed.ReportText.{report_text}
use Rattle.command_line.specs.believed.Told.{Tells}
use Rattle.seq_cli.specs.believed.Stops.{end_status, end_text, most_of, stop_of}
use Rattle.seq_cli.specs.believed.Words.{Asked}
use Rattle.seq_cli.specs.declared.stop.Ended.{Ended}
use Rattle.seq_cli.specs.declared.stop.Ended.TheVariants.{Whole, Refused}
use Rattle.seq_cli.specs.declared.stop.Input.{Input}
use Rattle.seq_cli.specs.declared.stop.Input.TheVariants.{EventFile, ReportFile}
use Rattle.seq_cli.specs.declared.stop.Stop.{Stop}
use Rattle.seq_cli.specs.declared.stop.Stop.TheVariants.{OutOfMemory, CannotRead, CannotWrite, TooLong}

-- ---- what is written

-- a text for standard output, and how a run ends that writes it whole
pub record Answer : Type 0 where
  pub text : List ℕ
  pub ended : Ended

abbrev pub ended_by : OrderVerdict → Ended
ended_by (verdicts.Accepted rows omissions) = Whole
ended_by (verdicts.BadLine line) = Refused
ended_by (verdicts.Uncovered sequence) = Refused

-- the report of what is grown for the events, or the verdict on a report, where one is checked
abbrev pub answer_of : EventsView → Option (List ℕ) → Answer
answer_of e None = record { text = report_text e (grown e); ended = Whole }
answer_of e (Some report) = record { text = verdict_text e (verdict e report); ended = ended_by (verdict e report) }

-- ---- how a run may end, on what the folder tells of its files

-- these bytes were read of a file: no more than there may be, and those that the folder held, where it tells
pub record IsRead (files : Files) (name : List ℕ) (input : Input) (bytes : List ℕ) : Type 0 where
  pub held : IfSome (files name) (λ held. held ≡ Some bytes)
  pub within : length bytes ≤ most_of input

-- why a file isn't read: the folder failed, or the file has more bytes than it may
pub data StopsReading (files : Files) (name : List ℕ) (input : Input) (stop : Stop) : Type 0 where
  cannot_read : stop ≡ CannotRead input → StopsReading files name input stop
  too_long : stop ≡ TooLong input → IfSome (files name) (λ held. IsSomeAnd held (λ bytes. most_of input < length bytes)) → StopsReading files name input stop

-- why a run may stop at the file of events: for want of memory, where the file isn't read, and by its first refusal
pub data StopsAtFile (asked : Asked) (files : Files) (stop : Stop) : Type 0 where
  wants_memory : stop ≡ OutOfMemory → StopsAtFile asked files stop
  not_read : StopsReading files asked.file EventFile stop → StopsAtFile asked files stop
  is_refused :
      (bytes : List ℕ) (fault : EventsFault) → IsRead files asked.file EventFile bytes → events_of asked.len bytes ≡ Err fault
      → stop ≡ stop_of fault → StopsAtFile asked files stop

-- these events were read of the file of events
pub record AreRead (asked : Asked) (files : Files) (e : EventsView) : Type 0 where
  pub bytes : List ℕ
  pub read : IsRead files asked.file EventFile bytes
  pub spelled : events_of asked.len bytes ≡ Ok e
  pub kept : AreEvents e

-- why a run may stop behind it: for want of memory, and where the report that is checked isn't read
pub data StopsBehind (asked : Asked) (files : Files) (stop : Stop) : Type 0 where
  no_memory : stop ≡ OutOfMemory → StopsBehind asked files stop
  no_report : (name : List ℕ) → asked.report ≡ Some name → StopsReading files name ReportFile stop → StopsBehind asked files stop

-- this report was read, where one is checked
abbrev pub IsReportRead : Files → Option (List ℕ) → Option (List ℕ) → Type 0
IsReportRead files None report = report ≡ None
IsReportRead files (Some name) report = IsSomeAnd report (IsRead files name ReportFile)

-- what the output got of a run that has this answer: all of its text, or up to a fault
abbrev pub Writes : Answer → SinkSeen → SinkSeen → Result Ended Stop → Type 0
Writes answer before after (Ok ended) = (ended ≡ answer.ended) × Puts Done before after answer.text
Writes answer before after (Err stop) = (stop ≡ CannotWrite) × Puts Failed before after answer.text

-- how a run may end, and what the output got: at the file of events, behind it, and with its answer
pub data Ends (asked : Asked) (files : Files) (before after : SinkSeen) (end : Result Ended Stop) : Type 0 where
  at_file : IsErrAnd end (StopsAtFile asked files) → after ≡ before → Ends asked files before after end
  behind : (e : EventsView) → AreRead asked files e → IsErrAnd end (StopsBehind asked files) → after ≡ before → Ends asked files before after end
  answers :
      (e : EventsView) (report : Option (List ℕ)) → AreRead asked files e → IsReportRead files asked.report report
      → Writes (answer_of e report) before after end → Ends asked files before after end

-- the count of faults of reading a file rose
abbrev pub RoseOf : Asked → Input → FolderSeen → FolderSeen → Type 0
RoseOf asked EventFile before after = ReadFaultsRose asked.file before after
RoseOf asked ReportFile before after = IsSomeAnd asked.report (λ name. ReadFaultsRose name before after)

-- a run on what words ask for: what it printed, which count of faults of reading rose where it blames a file, what it
-- told, and its status
pub record IsRun (asked : Asked) (folder folder_after : FolderSeen) (out out_after told_before told_after : SinkSeen) (status : ℕ) : Type 0 where
  pub end : Result Ended Stop
  pub ends : Ends asked folder.files out out_after end
  pub rose : (input : Input) → end ≡ Err (CannotRead input) → RoseOf asked input folder folder_after
  pub told : Tells told_before told_after (end_text asked end)
  pub ended : status ≡ end_status end

-- ---- what is known of it where the folder tells

-- the file of events is there, has no more bytes than it may, and spells these events
abbrev pub Spells : ℕ → Option (List ℕ) → EventsView → Type 0
Spells len held e = IsSomeAnd held (λ bytes. (length bytes ≤ most_of EventFile) × (events_of len bytes ≡ Ok e))

-- what was printed behind other bytes covers the sequences of events, and is accepted
pub record PrintsCovering (e : EventsView) (before after : List ℕ) : Type 0 where
  pub added : List ℕ
  pub behind : after ≡ before ++ added
  pub covers : IsCovering e added
  pub accepted : IsAccepted (verdict e added)

-- the report that is checked is there, and has no more bytes than it may; or none is checked
abbrev pub HoldsReport : Files → Option (List ℕ) → Option (List ℕ) → Type 0
HoldsReport files None report = report ≡ None
HoldsReport files (Some name) report = IsSomeAnd report (λ bytes. (files name ≡ Some (Some bytes)) × (length bytes ≤ most_of ReportFile))

-- there is a file of events, which spells some, and a report; and the verdict on it is one that P holds of
abbrev pub HasVerdict : ℕ → Option (List ℕ) → Option (List ℕ) → (OrderVerdict → Type 0) → Type 0
HasVerdict len held report P = (e : EventsView) × Spells len held e × IsSomeAnd report (λ bytes. (length bytes ≤ most_of ReportFile) × P (verdict e bytes))

-- no count of faults of reading the files rose
abbrev pub ReadsCalmly : Asked → FolderSeen → FolderSeen → Type 0
ReadsCalmly asked before after = ¬ ReadFaultsRose asked.file before after × IfSome asked.report (λ name. ¬ ReadFaultsRose name before after)

-- the count of one of the files rose
abbrev pub ReadFault : Asked → FolderSeen → FolderSeen → Type 0
ReadFault asked before after = ReadFaultsRose asked.file before after ⊎ IsSomeAnd asked.report (λ name. ReadFaultsRose name before after)
