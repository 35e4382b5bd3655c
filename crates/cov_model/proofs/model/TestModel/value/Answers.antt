use Rattle.cov_model.proofs.SoundLemmas.{value_number}
use Rattle.std.proofs.Common.{arith}
use Rattle.std.proofs.lemmas.Grind.{common_steps}
use Rattle.cov_model.proofs.model.TestModel.value.Goals as goal

pub returns-clause-number : goal.returns-clause-number
returns-clause-number c =
    grind (arith, common_steps, value_number c.args.self.now c.args.p c.args.v c.param.ensures.sound c.requires.parameter c.requires.value)
