use Rattle.std.proofs.Common.{length, sym, subst}
use Rattle.std.specs.Prelude.{MatchOption}
use Rattle.cov_model.specs.believed.Tuples.{cells_of}
use Rattle.proof_check.specs.Left.{Clears, IsPlaceOf, LacksPlace}
use Rattle.proof_check.proofs.LeftLemmas.{clears_none, clears_place}
use Rattle.definitions.proofs.NamedPairs.{length-cells_of}
use Rattle.proof_check.proofs.listed.clear_one.Goals as goal

pub returns : goal.returns
returns c =
    let m = c.args.model.now in
    let cells = cells_of (length m.params) c.args.tuple.now in
    let found = subst (λ found. MatchOption found (LacksPlace m cells) (λ at. IsPlaceOf m cells at.place)) c.in-Some.is c.in_ok-found.ensures in
    subst (Clears m cells c.args.left.now) (sym c.clear.ensures)
    (clears_place m cells c.in-Some.found.place c.args.left.now (length-cells_of (length m.params) c.args.tuple.now) found c.requires.long)

pub returns-in_default : goal.returns-in_default
returns-in_default c =
    let m = c.args.model.now in
    let cells = cells_of (length m.params) c.args.tuple.now in
    let none = subst (λ found. MatchOption found (LacksPlace m cells) (λ at. IsPlaceOf m cells at.place)) c.in_default.is c.in_ok-found.ensures in
    clears_none m cells c.args.left.now (length-cells_of (length m.params) c.args.tuple.now) none
