use Rattle.tuple_index.proofs.BaseLemmas.{BasesSoFar}
use Rattle.tuple_index.proofs.bases.bases_of.Given as goal

abbrev pub invariant-loop-size : goal.invariant-loop-size
invariant-loop-size l = BasesSoFar l.sizes l.bases.items l.total l.size-index
