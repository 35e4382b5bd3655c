-- What a run does, by what its words set. (PICT's guide for reports, seed rows and statistics; that a model is made, and
-- that a given suite is measured or searched for suspicious tuples, are this project's rules.)
use Rattle.std.specs.Prelude.{Bool, true, false}
use Rattle.definitions.specs.believed.RowReading.{RowMode, Seed, Suite}
use Rattle.pict_cli.specs.believed.Modes.{Mode, Generate, Measure, Suspect}

-- it generates a suite
abbrev pub makes_suite : Mode → Bool
makes_suite (Generate output) = true
makes_suite (Measure name) = false
makes_suite (Suspect name) = false

-- how the row file is read
abbrev pub row_mode : Mode → RowMode
row_mode (Generate output) = Seed
row_mode (Measure name) = Suite
row_mode (Suspect name) = Suite
