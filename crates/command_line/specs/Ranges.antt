-- What is known of settings that words have given. (PICT's guide for marks and orders; the ranges are this
-- project's rules.)
use Rattle.std.specs.Prelude.{ℕ, ◌≤◌}
use Rattle.definitions.specs.believed.Settings.{Settings}
use Rattle.model_parse.specs.RawModels.{AreOpts}
use Rattle.command_line.specs.believed.Words.{opts_of}

-- there are 1 to 64 workers
abbrev pub AreWorkers : ℕ → Type 0
AreWorkers n = (1 ≤ n) × (n ≤ 64)

-- a model file can be read so, and the workers are in their range
pub record AreFit (s : Settings) : Type 0 where
  pub opts : AreOpts (opts_of s)
  pub workers : AreWorkers s.workers
