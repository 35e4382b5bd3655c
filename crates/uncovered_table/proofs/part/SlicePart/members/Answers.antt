use Rattle.std.proofs.Common.{◌≡◌, ◌∙◌, ◌<◌, ap, arith, length, subst, sym}
use Rattle.definitions.specs.believed.Demand.{demanded_sets}
use Rattle.tuple_index.specs.Places.{RisesFrom}
use Rattle.tuple_index.proofs.LoopLemmas.{rises_within}
use Rattle.uncovered_table.specs.Places.{set_at}
use Rattle.uncovered_table.proofs.PlaceLemmas.{SetKnown, set_known}
use Rattle.uncovered_table.proofs.part.SlicePart.members.Goals as goal

known : (c : goal.After-members) → SetKnown c.self.inside.of.now c.self.inside.by.now c.args.set
known c =
    set_known c.self.inside.of.now c.self.inside.by.now c.args.set c.self.invariant.planned c.assert_invariant-2.ensures
    (subst (λ v. c.args.set < length (demanded_sets v.model)) (sym c.self.view_is) c.requires)

same : (c : goal.After-members) → c.members.result.now ≡ set_at c.args.self.now.model c.args.set
same c = c.members.ensures ∙ (known c).same ∙ ap (λ v. set_at v.model c.args.set) c.self.view_is

rising : (c : goal.After-members) → RisesFrom 0 (length c.args.self.now.model.params) c.members.result.now
rising c =
    subst (RisesFrom 0 (length c.args.self.now.model.params)) (sym (same c))
    (subst (λ v. RisesFrom 0 (length v.model.params) (set_at v.model c.args.set)) c.self.view_is (known c).rising)

pub returns-clause-value : goal.returns-clause-value
returns-clause-value c = same c

pub returns-clause-rising : goal.returns-clause-rising
returns-clause-rising c = rising c

pub returns-clause-exist : goal.returns-clause-exist
returns-clause-exist c = rises_within c.members.result.now 0 (length c.args.self.now.model.params) (rising c)

pub returns-clause-few : goal.returns-clause-few
returns-clause-few c =
    let long = ap length (c.members.ensures ∙ (known c).same) in
    omega (arith, long, (known c).few, c.assert_invariant.ensures.few)
