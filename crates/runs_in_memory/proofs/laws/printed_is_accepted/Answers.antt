-- What is printed is accepted.
use Rattle.runs_in_memory.proofs.Acceptance as lemmas
use Rattle.runs_in_memory.proofs.laws.printed_is_accepted.Goals as goal

pub returns : goal.returns
returns c = lemmas.printed_is_accepted
