use Rattle.proof_check.proofs.TupleSteps.{AreSoFar}
use Rattle.proof_check.proofs.uncovered.tuple_of.Given as goal

abbrev pub invariant-loop-i : goal.invariant-loop-i
invariant-loop-i l = AreSoFar l.members l.values l.i l.pairs.items
