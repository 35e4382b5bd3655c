-- A file that is read as a proof is its text.
use Rattle.definitions.proofs.ProofFiles as lemmas
use Rattle.definitions.proofs.laws.proofs_have_one_text.Goals as goal

pub returns : goal.returns
returns c = lemmas.proofs_have_one_text
