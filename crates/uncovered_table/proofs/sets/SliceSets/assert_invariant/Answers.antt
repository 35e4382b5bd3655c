use Rattle.std.proofs.Common.{◌≤◌, ◌^◌, length, subst}
use Rattle.uncovered_table.specs.Places.{slice_places}
use Rattle.uncovered_table.proofs.PlaceLemmas.{places_few}
use Rattle.uncovered_table.proofs.sets.SliceSets.assert_invariant.Goals as goal

pub returns-clause-few : goal.returns-clause-few
returns-clause-few c =
    subst (λ v. length (slice_places v.model v.slice) ≤ 2 ^ 26) c.self.view_is
    (places_few c.self.inside.part.model c.self.inside.part.slice c.assert_invariant.ensures.kept c.assert_invariant.ensures.own)
