-- Which text a model file and a table of tests call for when the coverage of the table is measured, or which cause for
-- none. (NIST IR 7878 for the figures; the causes and their order are this project's rules.)
use Rattle.std.specs.Prelude.{◌≡◌, ◌⊎◌, ℕ, List, Option, Some, option_map}
use Rattle.cov_model.specs.believed.Sound.{ModelView}
use Rattle.definitions.specs.declared.effort.Effort.{Effort}
use Rattle.tuple_index.specs.believed.PlanFault.{limit_passed}
use Rattle.command_line.specs.believed.Stops.{stop_of_plan}
use Rattle.command_line.specs.declared.stop.Stop.{Stop}
use Rattle.command_line.specs.declared.stop.Stop.TheVariants.{OutOfMemory}
use Rattle.jeldroft_files.specs.declared.failure.Cause.{Cause}
use Rattle.jeldroft_files.specs.declared.failure.Cause.TheVariants as causes
use Rattle.jeldroft_measure.specs.believed.Due.{spent_at}

-- ---- how the steps end

-- a cause is that of the limit that the model's demand passes
abbrev pub IsLimit : ModelView → Cause → Type 0
IsLimit m cause = option_map (λ fault. causes.Stop (stop_of_plan fault)) (limit_passed m) ≡ Some cause

-- a cause is that of the query that costs too much
abbrev pub IsSpent : Effort → Option (List (Option ℕ)) → Cause → Type 0
IsSpent effort over cause = option_map causes.Stop (spent_at effort over) ≡ Some cause

-- a search stopped by such a query, or for want of memory
abbrev pub StopsSearch : Effort → Option (List (Option ℕ)) → Stop → Type 0
StopsSearch effort over stop = (stop ≡ OutOfMemory) ⊎ (spent_at effort over ≡ Some stop)
