-- Suspicious tuples as the program holds them and as definitions name them, and when there are too many candidates.
use Rattle.std.specs.Prelude.{◌≡◌, ℕ, ◌<◌, List, map}
use Rattle.cov_model.specs.believed.Sound.{ModelView}
use Rattle.definitions.specs.believed.Limits.{SuspectCandidates, most_counted}
use Rattle.row_text.specs.RowFiles.{suite_seen}
use Rattle.tuple_index.specs.believed.PlanFault.{saturated}
use Rattle.suspect_tuples.specs.believed.Suspects as defined
use Rattle.suspect_tuples.specs.believed.Suspects.{candidate_count, failing_rows}
use Rattle.suspect_tuples.specs.declared.result_file.ResultFile.{ResultFile}
use Rattle.suspect_tuples.specs.declared.suspect_list.Found.{Found}
use Rattle.suspect_tuples.specs.declared.suspect_list.Suspects.{Suspects}
use Rattle.suspect_tuples.specs.declared.suspect_fault.SuspectFault.{SuspectFault}
use Rattle.suspect_tuples.specs.declared.suspect_fault.SuspectFault.TheVariants.{TooMany, NoMemory}

-- a tuple with the number of failing rows that contain it
abbrev pub found_seen : Found → List (ℕ × ℕ) × ℕ
found_seen found = (found.tuple, found.failing)

abbrev pub suspects_seen : Suspects → defined.Suspects
suspects_seen s = record { passing = s.passing; failing = s.failing; incomplete = s.incomplete; found = map found_seen s.found }

-- what is told of the rows of a file of results
abbrev pub suspects_of : ModelView → ResultFile → defined.Suspects
suspects_of m file = defined.suspects m (suite_seen file.rows) file.failed

-- how many candidates the rows of a file of results give
abbrev pub candidates_of : ModelView → ResultFile → ℕ
candidates_of m file = candidate_count m (failing_rows (suite_seen file.rows) file.failed)

-- a fault tells that there are more candidates than the limit, 2^22, and their number, or 2^64 - 1 where that is less
abbrev pub IsSuspectFault : ModelView → ResultFile → SuspectFault → Type 0
IsSuspectFault m file NoMemory = Unit {0}
IsSuspectFault m file (TooMany n) = (most_counted SuspectCandidates < candidates_of m file) × (n ≡ saturated (candidates_of m file))
