-- Each token list of a suite's proof refutes its tuple.
use Rattle.definitions.proofs.SuiteLaws as lemmas
use Rattle.definitions.proofs.laws.suite_proofs_refute.Goals as goal

pub returns : goal.returns
returns c = lemmas.suite_proofs_refute
