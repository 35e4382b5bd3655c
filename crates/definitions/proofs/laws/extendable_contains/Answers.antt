-- What an extendable partial row contains is extendable.
use Rattle.definitions.proofs.Extendable as lemmas
use Rattle.definitions.proofs.laws.extendable_contains.Goals as goal

pub returns : goal.returns
returns c = lemmas.extendable_contains
