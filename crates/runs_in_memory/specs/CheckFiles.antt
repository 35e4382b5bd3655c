-- What a folder in memory holds for a run of the checker.
use Rattle.std.specs.Prelude.{List}
use Rattle.memory_io.specs.MemFolder.{Slot, file_of}
use Rattle.command_line.specs.believed.Stops.{NamesView}
use Rattle.check_cli.specs.believed.Runs.{HeldFiles}

-- what it holds under these names
abbrev pub held_in : List Slot → NamesView → HeldFiles
held_in slots names = record { model = file_of slots names.model; report = file_of slots names.rows; proof = file_of slots names.proof }
