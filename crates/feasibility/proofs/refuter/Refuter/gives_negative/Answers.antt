use Rattle.std.proofs.Common.{◌∙◌, subst}
use Rattle.feasibility.specs.Refuting.{IsRefuter, RefuterView}
use Rattle.feasibility.proofs.Paths.{gives_fixed}
use Rattle.feasibility.proofs.refuter.Refuter.gives_negative.Goals as goal

pub returns-in-Negative : goal.returns-in-Negative
returns-in-Negative c =
    c.has_param.ensures
    ∙ gives_fixed c.args.self.now c.self.inside.slice c.in-Negative.fixed c.in-Negative.field-1 c.args.tuple.now
    (subst (λ (r : RefuterView). IsRefuter r c.self.inside.slice) c.self.view_is c.self.invariant) c.in-Negative.is
