use Rattle.definitions.proofs.GrowthLaw as lemmas
use Rattle.definitions.proofs.laws.suites_have_few_rows.Goals as goal

pub returns : goal.returns
returns c = lemmas.suites_have_few_rows
