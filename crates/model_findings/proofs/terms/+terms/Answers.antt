use Rattle.std.proofs.Common.{arith}
use Rattle.std.proofs.lemmas.Grind.{common_steps}
use Rattle.cov_model.specs.Views.{each_is, either_is}
use Rattle.model_findings.proofs.terms.+terms.Goals as goal

pub add_terms-returns-in-All : goal.add_terms-returns-in-All
add_terms-returns-in-All t c = let e = each_is c.in-All.parts in grind (arith, common_steps)

pub add_terms-returns-in-Any : goal.add_terms-returns-in-Any
add_terms-returns-in-Any t c = let e = either_is c.in-Any.parts in grind (arith, common_steps)
