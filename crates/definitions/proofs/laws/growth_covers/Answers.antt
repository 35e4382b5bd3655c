-- What growth gives covers what can be covered.
use Rattle.definitions.proofs.GrowthLaw as lemmas
use Rattle.definitions.proofs.laws.growth_covers.Goals as goal

pub returns : goal.returns
returns c = lemmas.growth_covers
