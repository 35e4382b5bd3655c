use Rattle.std.proofs.Common.{arith}
use Rattle.std.proofs.lemmas.Grind.{common_steps}
use Rattle.cov_model.specs.Views.{each_is}
use Rattle.model_lint.proofs.trees.always.Goals as goal

pub returns : goal.returns
returns c = let e = each_is c.new.result in grind (arith, common_steps)
