use Rattle.std.proofs.Common.{◌≡◌, All, subst, true}
use Rattle.std.specs.List.{list_any}
use Rattle.std.proofs.lemmas.List.Elements.{All-filter}
use Rattle.uncovered_table.specs.Bits.{is_marked}
use Rattle.uncovered_table.specs.Open.{IsPlaceOf}
use Rattle.uncovered_table.specs.Places.{is_place, slice_places}
use Rattle.uncovered_table.proofs.PlaceLemmas.{each_listed}
use Rattle.uncovered_table.proofs.table.Uncovered.assert_invariant.Goals as goal

pub returns-clause-some : goal.returns-clause-some
returns-clause-some c =
    let v = c.self.inside.sets in
    subst (λ table. All (IsPlaceOf table) table.places) c.self.view_is
    (All-filter (is_marked v.model v.slice c.self.inside.bits) (λ place. list_any (is_place place) (slice_places v.model v.slice) ≡ true)
    (slice_places v.model v.slice)
    (each_listed (slice_places v.model v.slice)))
