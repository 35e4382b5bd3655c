-- Why a run of `pictseq` may end before its output is written whole: its status, and its line on standard error.
-- (This project's rules.)
use Rattle.std.specs.Prelude.{◌≡◌, ℕ, true, List, [], ◌∷◌, Result, Ok, Err, ◌==◌}
use Rattle.std.specs.List.{list_any}
use Rattle.std.specs.Option.{unwrap_or}
use Rattle.definitions.specs.believed.Limits.{Measured, ModelFile, RowFile, most_bytes}
use Rattle.definitions.specs.believed.Diagnostics.{bytes_limit_line, cannot_read_line, cannot_write_report_line, memory_line, model_line}
use Rattle.command_line.specs.believed.Pieces.{limit_line}
use Rattle.seq_check.specs.believed.Codes.{event_code, event_text, limit_name}
use Rattle.seq_check.specs.believed.EventFile.{most}
use Rattle.seq_check.specs.declared.fault.EventLimit.{EventLimit}
use Rattle.seq_check.specs.declared.fault.EventsFault.{EventsFault}
use Rattle.seq_check.specs.declared.fault.EventsFault.TheVariants as faults
use Rattle.seq_cli.specs.believed.Words.{Asked}
use Rattle.seq_cli.specs.declared.stop.Ended.{Ended}
use Rattle.seq_cli.specs.declared.stop.Ended.TheVariants.{Whole, Refused}
use Rattle.seq_cli.specs.declared.stop.Input.{Input}
use Rattle.seq_cli.specs.declared.stop.Input.TheVariants.{EventFile, ReportFile}
use Rattle.seq_cli.specs.declared.stop.Stop.{Stop}
use Rattle.seq_cli.specs.declared.stop.Stop.TheVariants.{OutOfMemory, BadLine, CannotRead, CannotWrite, TooMany, TooLong}

-- the most bytes of a file that is read: a file of events may have as many as a model file, a report as many as a
-- row file
abbrev pub measured : Input → Measured
measured EventFile = ModelFile
measured ReportFile = RowFile

abbrev pub most_of : Input → ℕ
most_of input = most_bytes (measured input)

-- the name of a file that is read
abbrev pub name_of : Asked → Input → List ℕ
name_of asked EventFile = asked.file
name_of asked ReportFile = unwrap_or asked.report []

-- the stop of a refusal of the file of events
abbrev pub stop_of : EventsFault → Stop
stop_of (faults.Bad line code) = BadLine line code
stop_of (faults.TooMany limit count) = TooMany limit count
stop_of faults.NoMemory = OutOfMemory

abbrev pub status_of : Stop → ℕ
status_of OutOfMemory = 1
status_of (BadLine line code) = 4
status_of (CannotRead input) = 7
status_of CannotWrite = 8
status_of (TooMany limit count) = 9
status_of (TooLong input) = 9

abbrev pub count_limit_line : EventLimit → ℕ → List ℕ
count_limit_line limit count = limit_line (limit_name limit) count (most limit)

abbrev pub stop_line : Asked → Stop → List ℕ
stop_line asked OutOfMemory = memory_line
stop_line asked (BadLine line code) = model_line line (event_code code) (event_text code)
stop_line asked (CannotRead input) = cannot_read_line (name_of asked input)
stop_line asked CannotWrite = cannot_write_report_line
stop_line asked (TooMany limit count) = count_limit_line limit count
stop_line asked (TooLong input) = bytes_limit_line (measured input)

-- the status of a run: 0 where the output was written whole, but 10 where it says that a report is refused
abbrev pub ended_status : Ended → ℕ
ended_status Whole = 0
ended_status Refused = 10

abbrev pub end_status : Result Ended Stop → ℕ
end_status (Ok ended) = ended_status ended
end_status (Err stop) = status_of stop

-- what is told of the end: the line of the stop, where there is one
abbrev pub end_text : Asked → Result Ended Stop → List ℕ
end_text asked (Ok ended) = []
end_text asked (Err stop) = stop_line asked stop

-- the statuses that a run may end with
abbrev pub IsStatus : ℕ → Type 0
IsStatus status = list_any (λ s. s == status) (0 ∷ 1 ∷ 3 ∷ 4 ∷ 7 ∷ 8 ∷ 9 ∷ 10 ∷ []) ≡ true
