-- Which text the files of `show` call for, or which cause for none. (The causes and their order are this project's rules.)
use Rattle.std.specs.Prelude.{◌≡◌, Some, option_map}
use Rattle.cov_model.specs.believed.Sound.{ModelView}
use Rattle.tuple_index.specs.believed.PlanFault.{limit_passed}
use Rattle.command_line.specs.believed.Stops.{stop_of_plan}
use Rattle.jeldroft_files.specs.declared.failure.Cause.{Cause}
use Rattle.jeldroft_files.specs.declared.failure.Cause.TheVariants as causes

-- the limit that the demand of a model passes
abbrev pub IsLimit : ModelView → Cause → Type 0
IsLimit m cause = option_map (λ fault. causes.Stop (stop_of_plan fault)) (limit_passed m) ≡ Some cause
