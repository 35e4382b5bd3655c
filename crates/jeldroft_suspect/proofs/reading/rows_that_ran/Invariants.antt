use Rattle.std.proofs.Common.{◌≡◌, ◌++◌, drop}
use Rattle.jeldroft_suspect.specs.Results.{that_ran}
use Rattle.jeldroft_suspect.proofs.reading.rows_that_ran.Given as goal

abbrev pub invariant-loop-place : goal.invariant-loop-place
invariant-loop-place l = l.kept ++ that_ran (drop l.place l.rows) (drop l.place l.outcomes) ≡ that_ran l.rows l.outcomes
