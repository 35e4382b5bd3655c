use Rattle.tuple_index.proofs.InverseLemmas as lemmas
use Rattle.tuple_index.proofs.laws.ranks_are_inverse.Goals as goal

pub returns : goal.returns
returns c = lemmas.ranks_are_inverse
