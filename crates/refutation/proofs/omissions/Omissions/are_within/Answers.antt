use Rattle.std.proofs.Common.{All, subst}
use Rattle.std.proofs.lemmas.Bool.{leb-true}
use Rattle.refutation.specs.declared.omissions.Omission.{Omission}
use Rattle.refutation.specs.Holders.{EndsWithin}
use Rattle.refutation.specs.Proofs.{ProofView}
use Rattle.refutation.proofs.omissions.Omissions.are_within.Goals as goal

pub returns : goal.returns
returns c fits =
    subst (λ (proof : ProofView). All (λ (omission : Omission). EndsWithin c.args.count omission.tuple) proof.omissions) c.self.view_is
    (c.self.invariant.within c.args.count c.ranges.count.fits (leb-true c.self.inside.width c.args.count fits))
