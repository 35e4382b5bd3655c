use Rattle.std.proofs.Common.{ap, not, ◌∙◌}
use Rattle.model_lint.proofs.OneChanged.{idle_at}
use Rattle.model_lint.proofs.constraints.never_excludes.Goals as goal

pub returns : goal.returns
returns g c = ap not c.in_ok-found.ensures ∙ idle_at c.args.model.now c.args.number c.assert_invariant.ensures c.requires.least c.requires.most
