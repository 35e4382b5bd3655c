-- How the steps of a run of `generate` end. (This project's rules.)
use Rattle.std.specs.Prelude.{◌≡◌, ◌⊎◌, Option, Some}
use Rattle.command_line.specs.declared.stop.Stop.{Stop}
use Rattle.jeldroft_files.specs.believed.Failures.{status_of}
use Rattle.jeldroft_files.specs.declared.failure.Cause.{Cause}
use Rattle.jeldroft_files.specs.declared.failure.Cause.TheVariants as causes

-- a step ends by the stop that is due, or since memory or a device failed
abbrev pub EndsAt : Option Stop → Cause → Type 0
EndsAt due cause = (status_of cause ≡ 3) ⊎ ((stop : Stop) × (due ≡ Some stop) × (cause ≡ causes.Stop stop))
