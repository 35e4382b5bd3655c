-- The proof of a suite is read back.
use Rattle.definitions.proofs.SuiteLaws as lemmas
use Rattle.definitions.proofs.laws.suite_proofs_read_back.Goals as goal

pub returns : goal.returns
returns c = lemmas.suite_proofs_read_back
