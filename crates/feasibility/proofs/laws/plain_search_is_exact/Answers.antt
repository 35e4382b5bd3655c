use Rattle.feasibility.proofs.Extendable as lemmas
use Rattle.feasibility.proofs.laws.plain_search_is_exact.Goals as goal

pub returns : goal.returns
returns c = lemmas.plain_search_is_exact
