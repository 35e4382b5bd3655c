use Rattle.std.proofs.Common.{arith}
use Rattle.std.proofs.lemmas.Grind.{common_steps}
use Rattle.type_check.proofs.Lists.{list_refused}
use Rattle.type_check.proofs.scope.Scope.one_of.Goals as goal

pub returns-then-not-are_of_type-clause-err : goal.returns-then-not-are_of_type-clause-err
returns-then-not-are_of_type-clause-err c =
    list_refused c.args.self.now.fold c.args.self.now.params.now c.args.name.now c.args.literals.now c.args.line c.in_ok-p.p c.refused.result
    (grind (arith, common_steps)) (grind (arith, common_steps)) (grind (arith, common_steps))
