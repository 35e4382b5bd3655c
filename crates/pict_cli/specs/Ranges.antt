-- What is known of the settings of a run. (This project's rules.)
use Rattle.std.specs.Prelude.{◌≡◌, false, None}
use Rattle.definitions.specs.believed.Settings.{Settings}
use Rattle.command_line.specs.Ranges.{AreFit}
use Rattle.pict_cli.specs.Modes.{makes_suite}
use Rattle.pict_cli.specs.believed.Modes.{mode_of}

-- they are in their ranges, and only a run that generates a suite has a proof file
pub record FitRun (s : Settings) : Type 0 where
  pub fit : AreFit s
  pub unproved : makes_suite (mode_of s) ≡ false → s.proof ≡ None
