-- What the reading of a row file answers: exactly the reading of the definition, or its fault. Want of memory
-- is the one answer that says nothing. (PICT's guide for seed files; the faults are this project's rules.)
use Rattle.std.specs.Prelude.{◌≡◌, ◌<◌, ◌≤◌, map, length, Option, Some, None, Result, Ok, Err, All, AllPairs, IfSome}
use Rattle.cov_model.specs.believed.Sound.{ModelView}
use Rattle.cov_model.specs.Fits.{FitsModel}
use Rattle.definitions.specs.believed.Limits.{Rows, most_counted}
use Rattle.definitions.specs.believed.RowReading as defined
use Rattle.definitions.specs.believed.RowReading.{RowReading}
use Rattle.row_text.specs.RowFiles.{seeds_seen}
use Rattle.row_text.specs.declared.row_file.RowFile.{RowFile}
use Rattle.row_text.specs.declared.row_file.RowMode.{RowMode}
use Rattle.row_text.specs.declared.row_file.RowMode.TheVariants.{Seed, Suite}
use Rattle.row_text.specs.declared.rows_fault.RowsFault.{RowsFault}
use Rattle.row_text.specs.declared.rows_fault.RowsFault.TheVariants.{NoHeader, Twice, Missing, TooManyRows, Width, NoMemory}
use Rattle.row_text.specs.believed.Readings.{note_told}

-- the mode of a reading
abbrev pub mode_seen : RowMode → defined.RowMode
mode_seen Seed = defined.Seed
mode_seen Suite = defined.Suite

-- a row file holds a reading: its rows, each with its line, and its notes
pub record HoldsReading (file : RowFile) (reading : RowReading) : Type 0 where
  pub rows : seeds_seen file ≡ reading.rows
  pub notes : file.notes ≡ map note_told reading.notes

-- the fault that an answer tells of a row file; want of memory tells none
abbrev pub fault_of : RowsFault → Option defined.RowsFault
fault_of NoHeader = Some defined.NoHeader
fault_of (Twice line) = Some (defined.Twice line)
fault_of (Missing p) = Some (defined.Missing p)
fault_of (TooManyRows count) = Some (defined.TooManyRows count)
fault_of (Width line) = Some (defined.Width line)
fault_of NoMemory = None

-- what an answer says of a reading: the file holds it, or the fault is its fault
abbrev pub Reads : Result RowReading defined.RowsFault → Result RowFile RowsFault → Type 0
Reads reading (Ok file) = (read : RowReading) × (reading ≡ Ok read) × HoldsReading file read
Reads reading (Err fault) = IfSome (fault_of fault) (λ given. reading ≡ Err given)

-- what every row file that is read keeps: its rows fit the model, there are at most 2^20, and their lines rise
pub record IsFileOf (m : ModelView) (file : RowFile) : Type 0 where
  pub fit : All (λ row. FitsModel m row.cells) file.rows
  pub few : length file.rows ≤ most_counted Rows
  pub rising : AllPairs (λ a b. a.line < b.line) file.rows
