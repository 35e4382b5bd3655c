use Rattle.std.proofs.Common.{arith}
use Rattle.std.proofs.lemmas.Grind.{common_steps}
use Rattle.cov_model.specs.Views.{body_view}
use Rattle.cov_model.proofs.KnownLemmas.{rows_are_known}
use Rattle.cov_model.proofs.model.TestModel.holds_on.Goals as goal

pub returns : goal.returns
returns c =
    let known = rows_are_known c.args.self.now (body_view c.args.body.now) c.args.row.now c.requires.sound c.requires.row in
    grind (arith, common_steps)
