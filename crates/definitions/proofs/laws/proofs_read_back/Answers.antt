-- Reading the text of a proof gives the proof.
use Rattle.definitions.proofs.ProofFiles as lemmas
use Rattle.definitions.proofs.laws.proofs_read_back.Goals as goal

pub returns : goal.returns
returns c = lemmas.proofs_read_back
