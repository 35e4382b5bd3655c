use Rattle.type_check.proofs.Refusals.{PartsSoFar}
use Rattle.type_check.proofs.scope.Scope.+check.Given as goal

abbrev pub invariant-preds-loop-part : goal.invariant-preds-loop-part
invariant-preds-loop-part l = PartsSoFar l.self.fold l.self.params.now l.parts l.part-index l.preds
