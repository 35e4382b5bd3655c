-- How the steps of a run end that looks for combinations that only failing tests have.
use Rattle.std.specs.Prelude.{List, All}
use Rattle.cov_model.specs.believed.Sound.{ModelView}
use Rattle.suspect_tuples.specs.declared.results_fault.ResultsFault.{ResultsFault}
use Rattle.suspect_tuples.specs.declared.results_fault.ResultsFault.TheVariants as faults
use Rattle.suspect_tuples.specs.declared.suspect_list.Found.{Found}
use Rattle.command_line.specs.Stops as stops
use Rattle.command_line.specs.declared.stop.Stop.{Stop}
use Rattle.command_line.specs.declared.stop.Stop.TheVariants.{BadResult, NoResult, OutOfMemory}
use Rattle.jeldroft_suspect.specs.SuspectsText.{ArePairsOf}

-- the stop of an answer that a table of results isn't read
abbrev pub stop_of_fault : ResultsFault → Stop
stop_of_fault (faults.Rows fault) = stops.stop_of_rows fault
stop_of_fault faults.NoResult = NoResult
stop_of_fault (faults.BadResult line) = BadResult line
stop_of_fault faults.NoMemory = OutOfMemory

-- combinations are of the model
abbrev pub ArePairsFound : ModelView → List Found → Type 0
ArePairsFound m list = All (λ found. ArePairsOf m found.tuple) list
