-- What a run does, by what its words set. (PICT's guide for reports, seed rows and statistics; that a model is made, and
-- that a given suite is measured or searched for suspicious tuples, are this project's rules.)
use Rattle.std.specs.Prelude.{ℕ, Bool, true, false, List, Option, Some, None, option_map, if◌then◌else◌}
use Rattle.outside_io.specs.believed.Files.{Files}
use Rattle.made_models.specs.believed.MadeModel.{made_text}
use Rattle.definitions.specs.believed.Settings.{Settings}

-- what is printed of a suite
pub data Output : Type 0 where
  Report : Output
  Statistics : Output

-- it generates a suite, or measures the one of the file of this name, or looks for suspicious tuples in its results
pub data Mode : Type 0 where
  Generate : Output → Mode
  Measure : List ℕ → Mode
  Suspect : List ℕ → Mode

abbrev pub output_of : Settings → Output
output_of s = if s.stats then Statistics else Report

abbrev pub mode_in : Option (List ℕ) → Option (List ℕ) → Output → Mode
mode_in (Some name) measure output = Suspect name
mode_in None (Some name) output = Measure name
mode_in None None output = Generate output

-- a run that makes its model generates a suite and prints its statistics
abbrev pub mode_beside : Option ℕ → Mode → Mode
mode_beside None mode = mode
mode_beside (Some n) mode = Generate Statistics

abbrev pub mode_of : Settings → Mode
mode_of s = mode_beside s.make (mode_in s.suspect s.measure (output_of s))

-- it goes by a plan of the demand
abbrev pub makes_plan : Mode → Bool
makes_plan (Generate output) = true
makes_plan (Measure name) = true
makes_plan (Suspect name) = false

-- it prints the rows of a suite
abbrev pub is_report : Mode → Bool
is_report (Generate Report) = true
is_report (Generate Statistics) = false
is_report (Measure name) = false
is_report (Suspect name) = false

abbrev pub prints_rows : Settings → Bool
prints_rows s = is_report (mode_of s)

-- the bytes of its model, where the folder tells what the model file holds so: that, or the made model of a number
abbrev pub model_from : Option ℕ → Option (Option (List ℕ)) → Option (Option (List ℕ))
model_from None held = held
model_from (Some n) held = Some (Some (made_text n))

abbrev pub model_source : Settings → List ℕ → Files → Option (Option (List ℕ))
model_source s name files = model_from s.make (files name)

-- the name of the file of seed rows, where there is one: a run that makes its model has none
abbrev pub rows_beside : Option ℕ → Option (List ℕ) → Option (List ℕ)
rows_beside None rows = rows
rows_beside (Some n) rows = None

-- the name of the row file, where the run has one: the file of seed rows, or that of the suite
abbrev pub row_file_in : Mode → Option (List ℕ) → Option (List ℕ)
row_file_in (Generate output) seeds = seeds
row_file_in (Measure name) seeds = Some name
row_file_in (Suspect name) seeds = Some name

abbrev pub row_file : Settings → Option (List ℕ)
row_file s = row_file_in (mode_of s) (rows_beside s.make s.seeds)

-- what the row file holds, where the words name one: it may not be there
pub data RowSource : Type 0 where
  NoRowFile : RowSource
  RowsHeld : Option (List ℕ) → RowSource

-- what a folder of these files tells of the row file
abbrev pub source_in : Option (List ℕ) → Files → Option RowSource
source_in None files = Some NoRowFile
source_in (Some name) files = option_map RowsHeld (files name)

abbrev pub row_source : Settings → Files → Option RowSource
row_source s files = source_in (row_file s) files
