-- Which report or which verdict the files of `sequence` call for, or which cause for none. (Sequence covering arrays: Kuhn
-- and others 2012; the limits of bytes and the exit statuses are this project's rule.)
use Rattle.std.specs.Prelude.{◌≡◌, ℕ, List, length, Option, Some, None, Result, Ok, Err, IsSomeAnd, nat_lt, if◌then◌else◌}
use Rattle.definitions.specs.believed.Limits.{ModelFile, RowFile, most_bytes}
use Rattle.seq_check.specs.believed.EventFile.{events_of}
use Rattle.seq_check.specs.believed.Events.{EventsView}
use Rattle.seq_check.specs.believed.Verdicts.{verdict, verdict_text}
use Rattle.seq_check.specs.declared.fault.EventsFault.{EventsFault}
use Rattle.seq_check.specs.declared.fault.EventsFault.TheVariants as faults
use Rattle.seq_check.specs.declared.verdict.OrderVerdict.{OrderVerdict}
use Rattle.seq_check.specs.declared.verdict.OrderVerdict.TheVariants.{Accepted, BadLine as BadReportLine, Uncovered}
use Rattle.seq_cover.specs.believed.Covering.{IsAccepted, IsCovering}
use Rattle.seq_cover.specs.believed.OrderGrowth.{grown}
use Rattle.seq_cover.specs.believed.ReportText.{report_text}
use Rattle.jeldroft_sequence.specs.believed.Runs.{Judgement}
use Rattle.jeldroft_sequence.specs.declared.cause.SequenceCause.{SequenceCause}
use Rattle.jeldroft_sequence.specs.declared.cause.SequenceCause.TheVariants.{OutOfMemory, CannotRead, TooLong, BadLine, TooMany, CannotWrite}
use Rattle.jeldroft_sequence.specs.declared.cause.SequenceFile.{SequenceFile}
use Rattle.jeldroft_sequence.specs.declared.cause.SequenceFile.TheVariants.{Events, Report}

-- 3 where memory, a read or the write failed; 2 where a file is wrong
abbrev pub status_of : SequenceCause → ℕ
status_of OutOfMemory = 3
status_of (CannotRead file) = 3
status_of (TooLong file) = 2
status_of (BadLine line code) = 2
status_of (TooMany limit count) = 2
status_of CannotWrite = 3

-- ---- what is read

abbrev pub most_of : SequenceFile → ℕ
most_of Events = most_bytes ModelFile
most_of Report = most_bytes RowFile

-- the bytes that are read of a file whose name holds this, or nothing
abbrev pub bytes_held : SequenceFile → Option (List ℕ) → Result (List ℕ) SequenceCause
bytes_held file None = Err (CannotRead file)
bytes_held file (Some bytes) = if nat_lt (most_of file) (length bytes) then Err (TooLong file) else Ok bytes

-- the cause of a refusal of a file of events
abbrev pub cause_of : EventsFault → SequenceCause
cause_of (faults.Bad line code) = BadLine line code
cause_of (faults.TooMany limit count) = TooMany limit count
cause_of faults.NoMemory = OutOfMemory

abbrev pub events_or : Result EventsView EventsFault → Result EventsView SequenceCause
events_or (Ok e) = Ok e
events_or (Err fault) = Err (cause_of fault)

abbrev pub events_read : ℕ → Result (List ℕ) SequenceCause → Result EventsView SequenceCause
events_read len (Ok bytes) = events_or (events_of len bytes)
events_read len (Err cause) = Err cause

-- the events that a file of events spells, for sequences of this length
abbrev pub events_held : ℕ → Option (List ℕ) → Result EventsView SequenceCause
events_held len held = events_read len (bytes_held Events held)

-- ---- the report of orders

abbrev pub report_on : Result EventsView SequenceCause → Result (List ℕ) SequenceCause
report_on (Ok e) = Ok (report_text e (grown e))
report_on (Err cause) = Err cause

-- the report of the orders that are grown for what the file of events holds
abbrev pub IsReportDue : ℕ → Option (List ℕ) → Result (List ℕ) SequenceCause → Type 0
IsReportDue len held called = report_on (events_held len held) ≡ called

-- a text covers the sequences of the events of a file: each of its lines is that of a permitted order or of a sequence
-- that is set aside with a cycle, and each sequence is had by the order of a line, or is set aside by one, and then no
-- permitted order has it; and the checker accepts the text
pub record CoversEvents (len : ℕ) (held : Option (List ℕ)) (text : List ℕ) : Type 0 where
  pub e : EventsView
  pub spelled : events_held len held ≡ Ok e
  pub covers : IsCovering e text
  pub accepted : IsAccepted (verdict e text)

-- ---- the verdict on a report

-- 0 where it is accepted, else 1
abbrev pub verdict_status : OrderVerdict → ℕ
verdict_status (Accepted rows omissions) = 0
verdict_status (BadReportLine line) = 1
verdict_status (Uncovered sequence) = 1

abbrev pub judgement_of : EventsView → OrderVerdict → Judgement
judgement_of e v = record { text = verdict_text e v; status = verdict_status v }

abbrev pub judgement_read : EventsView → Result (List ℕ) SequenceCause → Result Judgement SequenceCause
judgement_read e (Ok bytes) = Ok (judgement_of e (verdict e bytes))
judgement_read e (Err cause) = Err cause

abbrev pub judgement_on : Option (List ℕ) → Result EventsView SequenceCause → Result Judgement SequenceCause
judgement_on report (Ok e) = judgement_read e (bytes_held Report report)
judgement_on report (Err cause) = Err cause

-- the verdict on what the file of the report holds, for what the file of events holds
abbrev pub IsJudgementDue : ℕ → Option (List ℕ) → Option (List ℕ) → Result Judgement SequenceCause → Type 0
IsJudgementDue len held report called = judgement_on report (events_held len held) ≡ called

-- there are a file of events, which spells some, and a report, and the verdict on it is one that P holds of
abbrev pub HasVerdict : ℕ → Option (List ℕ) → Option (List ℕ) → (OrderVerdict → Type 0) → Type 0
HasVerdict len held report P = (e : EventsView) × (events_held len held ≡ Ok e) × IsSomeAnd report (λ bytes. P (verdict e bytes))

-- ---- where a text goes

-- a report to the file of this name, if there is one; a verdict to standard output
abbrev pub output_of : Option (List ℕ) → Option (List ℕ) → Option (List ℕ)
output_of (Some report) output = None
output_of None output = output
