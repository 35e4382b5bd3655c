use Rattle.type_check.proofs.RuleLists.{SoFar}
use Rattle.type_check.proofs.scope.Scope.checked_rules.Given as goal

abbrev pub invariant-loop-rule : goal.invariant-loop-rule
invariant-loop-rule l = SoFar l.self.fold l.self.params.now l.raw l.rule-index l.rules
