-- What the steps of a run say of each other. (This project's rules.)
use Rattle.std.specs.Prelude.{◌≡◌, ℕ, ◌⊎◌, List, ◌++◌, map, take, Option, Some, Result, Ok, Err, IfSome}
use Rattle.outside_io.specs.believed.Files.{HoldsOldOrPrefix}
use Rattle.outside_io.specs.believed.Seen.{FolderSeen, KeepsFiles, KeepsWriteFaults, WriteFaultsRose}
use Rattle.cov_model.specs.believed.Sound.{ModelView}
use Rattle.definitions.specs.believed.ProofText.{proof_text}
use Rattle.definitions.specs.believed.RowReading.{RowMode, RowReading}
use Rattle.definitions.specs.believed.Settings.{Settings}
use Rattle.model_lex.specs.declared.note.Note.{Note}
use Rattle.refutation.specs.believed.Proofs.{format_of}
use Rattle.refutation.specs.Proofs.{omission_meant}
use Rattle.refutation.specs.declared.omissions.Omission.{Omission}
use Rattle.refutation.specs.declared.omissions.ProofForm.{ProofForm}
use Rattle.row_text.specs.Readings.{HoldsReading}
use Rattle.row_text.specs.declared.row_file.RowFile.{RowFile}
use Rattle.suspect_tuples.specs.believed.ResultReading.{ResultReading}
use Rattle.suspect_tuples.specs.Results.{HoldsResults}
use Rattle.suspect_tuples.specs.declared.result_file.ResultFile.{ResultFile}
use Rattle.suspect_tuples.specs.declared.results_fault.ResultsFault.{ResultsFault}
use Rattle.suspect_tuples.specs.declared.results_fault.ResultsFault.TheVariants as faults
use Rattle.command_line.specs.Stops.{stop_of_rows}
use Rattle.command_line.specs.declared.files.FileKind.TheVariants as kinds
use Rattle.command_line.specs.declared.stop.Stop.{Stop}
use Rattle.command_line.specs.declared.stop.Stop.TheVariants.{BadResult, CannotRead, CannotWrite, NoResult, OutOfMemory}
use Rattle.command_line.specs.believed.Told.{end_status}
use Rattle.pict_cli.specs.Ends.{Leaves, LeavesAll}
use Rattle.pict_cli.specs.believed.Ends.{Moment, Stopped, end_of}
use Rattle.pict_cli.specs.believed.Making.{EndsFrom}
use Rattle.pict_cli.specs.believed.Modes.{RowSource, model_source, row_source}
use Rattle.pict_cli.specs.believed.RowSources.{read_result_bytes, read_row_bytes, read_source, without_results}
use Rattle.pict_cli.specs.believed.Runs.{Ends, notes_behind}
use Rattle.pict_cli.specs.believed.Steps.{HoldsMade}

-- the text of a proof of this form with these omissions
abbrev pub written : ProofForm → List Omission → List ℕ
written form omissions = proof_text (format_of form) (map omission_meant omissions)

-- the row file was read: its rows and notes are those of this reading
pub record HoldsRows (m : ModelView) (mode : RowMode) (source : RowSource) (file : RowFile) : Type 0 where
  pub reading : RowReading
  pub read : read_source (read_row_bytes m mode) source ≡ Ok (without_results reading)
  pub holds : HoldsReading file reading

-- the file of results was read
pub record HoldsResultsOf (m : ModelView) (source : RowSource) (file : ResultFile) : Type 0 where
  pub reading : ResultReading
  pub read : read_source (read_result_bytes m) source ≡ Ok reading
  pub holds : HoldsResults file reading

-- why the reading of the row file, whose bytes are read so, stops: for want of memory, where the folder failed, and as it
-- must
pub data StopsRows (read : List ℕ → Result ResultReading Stop) (source : RowSource) (stop : Stop) : Type 0 where
  no_room : stop ≡ OutOfMemory → StopsRows read source stop
  folder_failed : stop ≡ CannotRead kinds.Rows → StopsRows read source stop
  is_refused : read_source read source ≡ Err stop → StopsRows read source stop

-- the stop of an answer that a file of results isn't read
abbrev pub stop_of_results_fault : ResultsFault → Stop
stop_of_results_fault (faults.Rows fault) = stop_of_rows fault
stop_of_results_fault faults.NoResult = NoResult
stop_of_results_fault (faults.BadResult line) = BadResult line
stop_of_results_fault faults.NoMemory = OutOfMemory

-- what a run may end by at its plan or its row file
abbrev pub IsOfRows : Stop → Type 0
IsOfRows stop = (stop ≡ CannotRead kinds.Rows) ⊎ (end_of (Err stop) ≡ Stopped)

-- it stopped for want of memory, or as it must
abbrev pub IsDueOrNoMemory : Option Stop → Stop → Type 0
IsDueOrNoMemory due stop = (stop ≡ OutOfMemory) ⊎ (due ≡ Some stop)

-- the work on what the row file gives stopped: for want of memory, or as it must, and none of the later notes are told
-- where it must
pub data StopsWork (due : Option Stop) (later notes notes_after : List Note) (stop : Stop) : Type 0 where
  no_memory : (count : ℕ) → stop ≡ OutOfMemory → notes_after ≡ notes ++ take count (notes_behind due later) → StopsWork due later notes notes_after stop
  is_due : due ≡ Some stop → notes_after ≡ notes → StopsWork due later notes notes_after stop

-- the made model of these bytes isn't written to the file of this name: memory is wanting, and no file changes, or the
-- folder failed
pub data StopsMaking (name made : List ℕ) (before after : FolderSeen) (stop : Stop) : Type 0 where
  unmade : stop ≡ OutOfMemory → KeepsFiles before after → KeepsWriteFaults before after → StopsMaking name made before after stop
  write_failed : stop ≡ CannotWrite kinds.Model → IfSome (after.files name) (λ held. HoldsOldOrPrefix (before.files name) held made) → WriteFaultsRose name before after
      → StopsMaking name made before after stop

-- a run on the bytes of a model that are told so ended so, from one moment to another
pub record RanOn (bytes : Option (Option (List ℕ))) (s : Settings) (seed : ℕ) (name : List ℕ) (before after : Moment) (notes row_notes : List Note) (end : Result (Unit {0}) Stop) : Type 0 where
  pub ends : (held : Option (List ℕ)) → bytes ≡ Some held → Ends s seed held (row_source s before.folder.files) notes row_notes before after end
  pub leaves : Leaves s name before after (end_of end)

-- a run on the model file of this name ended so, from one moment to another
pub record Ran (s : Settings) (seed : ℕ) (name : List ℕ) (before after : Moment) (notes row_notes : List Note) (end : Result (Unit {0}) Stop) : Type 0 where
  pub ends : (held : Option (List ℕ)) → model_source s name before.folder.files ≡ Some held
      → EndsFrom s.make name (λ start. Ends s seed held (row_source s before.folder.files) notes row_notes start after end) notes row_notes before after end
  pub leaves : LeavesAll s name before after (end_of end)
  pub made : IfSome s.make (λ n. HoldsMade s n name after.folder.files (end_status end))
