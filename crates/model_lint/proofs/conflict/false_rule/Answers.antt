use Rattle.std.proofs.Common.{arith}
use Rattle.std.proofs.lemmas.Grind.{common_steps}
use Rattle.model_lint.proofs.ThinMarks.{fault_is_false}
use Rattle.model_lint.proofs.conflict.false_rule.Goals as goal

pub returns-in-Some-Rule-clause-some : goal.returns-in-Some-Rule-clause-some
returns-in-Some-Rule-clause-some c =
    fault_is_false c.args.model.now c.args.row.now c.in-Some-Rule.number c.assert_invariant.ensures (grind (arith, common_steps))
