use Rattle.full_search.proofs.Grown.{GrowsWith}
use Rattle.full_search.proofs.TupleValues.{IsPairBefore}
use Rattle.full_search.proofs.closing.add_tuple.Given as goal

-- what the path gives the parameters of the pairs before this one was added
abbrev pub invariant-loop-q : goal.invariant-loop-q
invariant-loop-q l = GrowsWith (IsPairBefore l.q-items l.q-index) l.cells l.p l.initial.why l.why
