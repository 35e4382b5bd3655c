use Rattle.cov_model.specs.Fits.{FitsModel}
use Rattle.shrink_search.proofs.found.FoundRows.fill.Given as goal

abbrev pub invariant-loop-p : goal.invariant-loop-p
invariant-loop-p l = FitsModel l.model l.into
