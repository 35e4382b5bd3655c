-- A row serves a tuple exactly if it is a row of its slice that contains it.
use Rattle.definitions.proofs.Serving as lemmas
use Rattle.definitions.proofs.laws.slices_serve.Goals as goal

pub returns : goal.returns
returns c = lemmas.slices_serve
