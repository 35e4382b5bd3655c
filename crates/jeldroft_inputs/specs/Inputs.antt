-- What a model file and a table give a command, or the cause by which it ends at them. (PICT's guide for both files;
-- which bytes they may have, and that a table may be one of RFC 4180, are this project's rules.)
use Rattle.std.specs.Prelude.{◌≡◌, ◌⊎◌, ℕ, Bool, List, Option, Ok}
use Rattle.cov_model.specs.believed.Sound.{ModelView}
use Rattle.definitions.specs.believed.RowReading.{RowReading}
use Rattle.row_text.specs.Readings.{HoldsReading}
use Rattle.row_text.specs.declared.row_file.RowFile.{RowFile}
use Rattle.row_text.specs.declared.rows_fault.RowsFault.TheVariants as rows
use Rattle.jeldroft_files.specs.believed.Failures.{status_of}
use Rattle.jeldroft_files.specs.declared.failure.Cause.{Cause}
use Rattle.jeldroft_inputs.specs.believed.Inputs.{tests_of}

-- a command ends by a cause since memory or a device failed, or since its files call for it
abbrev pub EndsBy : (Cause → Type 0) → Cause → Type 0
EndsBy Calls cause = (status_of cause ≡ 3) ⊎ Calls cause

-- a file of rows holds the tests of a table
pub record HoldsTests (m : ModelView) (comma : Bool) (held : Option (List ℕ)) (file : RowFile) : Type 0 where
  pub reading : RowReading
  pub read : tests_of m comma held ≡ Ok reading
  pub holds : HoldsReading file reading
