-- Some row serves a tuple exactly if it is extendable in its slice.
use Rattle.definitions.proofs.Serving as lemmas
use Rattle.definitions.proofs.laws.servable_are_extendable.Goals as goal

pub returns : goal.returns
returns c = lemmas.servable_are_extendable
