-- What a row file gives a run: its rows and the notes on it, or why the run stops at it. (PICT's guide for seed
-- files; the steps are this project's rules.)
use Rattle.std.specs.Prelude.{ℕ, List, [], map, length, Option, Some, None, Result, Ok, Err, nat_lt, if◌then◌else◌}
use Rattle.cov_model.specs.believed.Sound.{ModelView}
use Rattle.definitions.specs.believed.Limits.{RowFile, most_bytes}
use Rattle.definitions.specs.believed.RowReading.{RowMode, RowReading, Seed, Suite, read_rows}
use Rattle.definitions.specs.believed.RowReading as defined
use Rattle.definitions.specs.believed.Seeds.{dropped_lines}
use Rattle.model_lex.specs.declared.note.Note.{Note}
use Rattle.model_lex.specs.declared.note.NoteCode.TheVariants.{RowDropped}
use Rattle.row_text.specs.believed.Readings.{note_told}
use Rattle.row_text.specs.declared.rows_fault.RowsFault.TheVariants.{NoHeader, Twice, Missing, Width}
use Rattle.suspect_tuples.specs.believed.ResultReading as results
use Rattle.suspect_tuples.specs.believed.ResultReading.{ResultReading, read_results}
use Rattle.command_line.specs.declared.files.FileKind.TheVariants as kinds
use Rattle.command_line.specs.declared.stop.Quantity.TheVariants as quantities
use Rattle.command_line.specs.declared.stop.Stop.{Stop}
use Rattle.command_line.specs.declared.stop.Stop.TheVariants.{BadResult, BadRows, CannotRead, NoResult, TooLong, TooMany}
use Rattle.pict_cli.specs.believed.Modes.{Generate, Measure, Mode, NoRowFile, RowSource, RowsHeld, Suspect}

-- the stop of a refusal of the row file
abbrev pub stop_of_rows : defined.RowsFault → Stop
stop_of_rows defined.NoHeader = BadRows NoHeader
stop_of_rows (defined.Twice line) = BadRows (Twice line)
stop_of_rows (defined.Missing parameter) = BadRows (Missing parameter)
stop_of_rows (defined.TooManyRows count) = TooMany quantities.Rows count
stop_of_rows (defined.Width line) = BadRows (Width line)

abbrev pub stop_of_results : results.ResultsFault → Stop
stop_of_results (results.Rows fault) = stop_of_rows fault
stop_of_results results.NoResult = NoResult
stop_of_results (results.BadResult line) = BadResult line

-- rows of which no results are told
abbrev pub without_results : RowReading → ResultReading
without_results reading = record { rows = reading; failed = [] }

-- what the bytes of a row file give a run, or why it stops
abbrev pub or_stop : Result RowReading defined.RowsFault → Result ResultReading Stop
or_stop (Ok reading) = Ok (without_results reading)
or_stop (Err fault) = Err (stop_of_rows fault)

abbrev pub or_result_stop : Result ResultReading results.ResultsFault → Result ResultReading Stop
or_result_stop (Ok reading) = Ok reading
or_result_stop (Err fault) = Err (stop_of_results fault)

abbrev pub read_row_bytes : ModelView → RowMode → List ℕ → Result ResultReading Stop
read_row_bytes m mode bytes = or_stop (read_rows m mode bytes)

abbrev pub read_result_bytes : ModelView → List ℕ → Result ResultReading Stop
read_result_bytes m bytes = or_result_stop (read_results m bytes)

-- by what it does: only one that looks for suspicious tuples reads results
abbrev pub read_bytes : Mode → ModelView → List ℕ → Result ResultReading Stop
read_bytes (Generate output) m = read_row_bytes m Seed
read_bytes (Measure name) m = read_row_bytes m Suite
read_bytes (Suspect name) m = read_result_bytes m

-- without a row file there are no rows
abbrev pub no_rows : ResultReading
no_rows = without_results (record { rows = []; notes = [] })

-- what the row file gives, whose bytes are read so, or why the run stops, where memory is found and no read fails
abbrev pub read_source : (List ℕ → Result ResultReading Stop) → RowSource → Result ResultReading Stop
read_source read NoRowFile = Ok no_rows
read_source read (RowsHeld None) = Err (CannotRead kinds.Rows)
read_source read (RowsHeld (Some bytes)) = if nat_lt (most_bytes RowFile) (length bytes) then Err (TooLong kinds.Rows) else read bytes

-- the reading, or none of rows where there is none
abbrev pub reading_or_none : Result ResultReading Stop → ResultReading
reading_or_none (Ok reading) = reading
reading_or_none (Err stop) = no_rows

-- the notes on the row file
abbrev pub notes_on : ResultReading → List Note
notes_on reading = map note_told reading.rows.notes

-- those on seed rows that aren't kept, which come once there is a suite
abbrev pub dropped_note : ℕ → Note
dropped_note line = record { line = line; code = RowDropped }

abbrev pub dropped_notes : ModelView → List (ℕ × List (Option ℕ)) → List Note
dropped_notes m seeds = map dropped_note (dropped_lines m seeds)

abbrev pub later_notes : Mode → ModelView → List (ℕ × List (Option ℕ)) → List Note
later_notes (Generate output) m rows = dropped_notes m rows
later_notes (Measure name) m rows = []
later_notes (Suspect name) m rows = []

abbrev pub stop_in : Result ResultReading Stop → Option Stop
stop_in (Ok reading) = None
stop_in (Err stop) = Some stop
