-- What the reading of a file of results answers: exactly the reading of the definition, or its fault. Want of memory
-- is the one answer that says nothing. (This project's rule.)
use Rattle.std.specs.Prelude.{◌≡◌, length, Option, Some, None, Result, Ok, Err, option_map, IfSome}
use Rattle.cov_model.specs.believed.Sound.{ModelView}
use Rattle.row_text.specs.Readings.{HoldsReading, IsFileOf, fault_of}
use Rattle.row_text.specs.declared.rows_fault.RowsFault.{RowsFault}
use Rattle.row_text.specs.declared.rows_fault.RowsFault.TheVariants as rows
use Rattle.suspect_tuples.specs.believed.ResultReading as defined
use Rattle.suspect_tuples.specs.believed.ResultReading.{ResultReading}
use Rattle.suspect_tuples.specs.declared.result_file.ResultFile.{ResultFile}
use Rattle.suspect_tuples.specs.declared.results_fault.ResultsFault.{ResultsFault}
use Rattle.suspect_tuples.specs.declared.results_fault.ResultsFault.TheVariants.{Rows, NoResult, BadResult, NoMemory}

-- a file of results holds a reading: its rows and notes, and of each row whether its test failed
pub record HoldsResults (file : ResultFile) (reading : ResultReading) : Type 0 where
  pub rows : HoldsReading file.rows reading.rows
  pub failed : file.failed ≡ reading.failed

-- the fault of a row file as one of a file of results
abbrev pub refused_as : RowsFault → ResultsFault
refused_as rows.NoMemory = NoMemory
refused_as rows.NoHeader = Rows rows.NoHeader
refused_as (rows.Twice line) = Rows (rows.Twice line)
refused_as (rows.Missing p) = Rows (rows.Missing p)
refused_as (rows.TooManyRows count) = Rows (rows.TooManyRows count)
refused_as (rows.Width line) = Rows (rows.Width line)

-- the fault that an answer tells of a file of results; want of memory tells none
abbrev pub result_fault_of : ResultsFault → Option defined.ResultsFault
result_fault_of (Rows fault) = option_map defined.Rows (fault_of fault)
result_fault_of NoResult = Some defined.NoResult
result_fault_of (BadResult line) = Some (defined.BadResult line)
result_fault_of NoMemory = None

-- what an answer says of a reading: the file holds it, or the fault is its fault
abbrev pub ReadsResults : Result ResultReading defined.ResultsFault → Result ResultFile ResultsFault → Type 0
ReadsResults reading (Ok file) = (read : ResultReading) × (reading ≡ Ok read) × HoldsResults file read
ReadsResults reading (Err fault) = IfSome (result_fault_of fault) (λ given. reading ≡ Err given)

-- what every file of results that is read keeps: its rows are those of a file of the model, and of each it says
-- whether its test failed
pub record AreResultsOf (m : ModelView) (file : ResultFile) : Type 0 where
  pub rows : IsFileOf m file.rows
  pub failed : length file.failed ≡ length file.rows.rows
