-- What a folder in memory holds for a run.
use Rattle.std.specs.Prelude.{ℕ, List, Option, None, Some}
use Rattle.definitions.specs.believed.Settings.{Settings}
use Rattle.made_models.specs.believed.MadeModel.{made_text}
use Rattle.memory_io.specs.MemFolder.{Slot, file_of}
use Rattle.pict_cli.specs.believed.Modes.{RowSource, NoRowFile, RowsHeld, row_file}

-- the row file
abbrev pub source_under : List Slot → Option (List ℕ) → RowSource
source_under slots None = NoRowFile
source_under slots (Some name) = RowsHeld (file_of slots name)

abbrev pub source_of : List Slot → Settings → RowSource
source_of slots s = source_under slots (row_file s)

-- the bytes of the model: those of the model file, or the made model of a number
abbrev pub model_under : Option ℕ → Option (List ℕ) → Option (List ℕ)
model_under None held = held
model_under (Some n) held = Some (made_text n)

abbrev pub model_in : List Slot → List ℕ → Settings → Option (List ℕ)
model_in slots name s = model_under s.make (file_of slots name)
