-- A check of the same files has one answer.
use Rattle.proof_check.proofs.OneCheck as lemmas
use Rattle.proof_check.proofs.laws.checks_have_one_answer.Goals as goal

pub returns : goal.returns
returns c = lemmas.checks_have_one_answer
