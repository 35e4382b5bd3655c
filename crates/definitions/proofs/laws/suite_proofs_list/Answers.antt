-- The proof of a suite lists the demanded tuples that no row serves.
use Rattle.definitions.proofs.SuiteLaws as lemmas
use Rattle.definitions.proofs.laws.suite_proofs_list.Goals as goal

pub returns : goal.returns
returns c = lemmas.suite_proofs_list
