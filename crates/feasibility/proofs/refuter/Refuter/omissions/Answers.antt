use Rattle.std.proofs.Common.{◌≡◌, subst, refl}
use Rattle.feasibility.specs.Refuting.{RefuterView, earlier_tuples}
use Rattle.feasibility.proofs.refuter.Refuter.omissions.Goals as goal

pub returns-clause-earlier : goal.returns-clause-earlier
returns-clause-earlier c =
    subst (λ (r : RefuterView). r.earlier ≡ earlier_tuples r.model c.self.inside.omissions.now) c.self.view_is refl
