use Rattle.std.proofs.Common.{ap, not, sym, ◌∙◌}
use Rattle.model_lint.proofs.OneChanged.{unmet_at}
use Rattle.model_lint.proofs.constraints.never_applies.Goals as goal

pub returns : goal.returns
returns g c =
    ap not c.in_ok-found.ensures
    ∙ unmet_at c.args.model.now c.args.number c.assert_invariant.ensures c.requires.least c.requires.most (sym c.is_conditional.ensures ∙ c.if-not-is_conditional.false)
