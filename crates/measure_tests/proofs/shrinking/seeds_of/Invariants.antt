use Rattle.std.proofs.Common.{All}
use Rattle.cov_model.specs.Fits.{FitsModel}
use Rattle.measure_tests.proofs.shrinking.seeds_of.Given as goal

abbrev pub invariant-loop-row : goal.invariant-loop-row
invariant-loop-row l = All (FitsModel l.model) l.rows
