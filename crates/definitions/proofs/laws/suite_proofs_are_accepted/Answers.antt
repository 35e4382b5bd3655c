-- A suite is accepted with its proof.
use Rattle.definitions.proofs.SuiteLaws as lemmas
use Rattle.definitions.proofs.laws.suite_proofs_are_accepted.Goals as goal

pub returns : goal.returns
returns c = lemmas.suite_proofs_are_accepted
