use Rattle.std.proofs.Common.{◌≡◌, ◌++◌, drop}
use Rattle.jeldroft_suspect.specs.Results.{failures}
use Rattle.jeldroft_suspect.proofs.reading.failures.Given as goal

abbrev pub invariant-loop-outcome : goal.invariant-loop-outcome
invariant-loop-outcome l = l.failed ++ failures (drop l.outcome-index l.outcomes) ≡ failures l.outcomes
