use Rattle.std.proofs.Common.{◌++◌, List, ℕ, map, ◌∙◌, sym, ap}
use Rattle.cov_model.specs.declared.demand.Group.{Group}
use Rattle.definitions.specs.believed.Demand.{choose, rising}
use Rattle.tuple_index.proofs.ListingLemmas.{map_flat_map}
use Rattle.tuple_index.proofs.ChoiceLemmas.{flat_step, flat_end}
use Rattle.tuple_index.proofs.sets.push_relations.Goals as goal

pub loop-relation-preserved : goal.loop-relation-preserved
loop-relation-preserved c =
    let sets : Group → List (List ℕ) = λ relation. map (rising c.args.model.now) (choose relation.order relation.members) in
    let order = c.relation-item.result.order in
    flat_step sets c.args.relations.now c.loop-relation.relation-index c.relation-item.result c.loop-relation.sets c.push_choices.new.sets
    _ c.loop-relation-test.true c.relation-item.is
    (c.in_ok-push_choices.ensures.sets
    ∙ ap (λ (taken : List ℕ). c.loop-relation.sets ++ map (λ rest. rising c.args.model.now (taken ++ rest)) (choose order c.as_slice-members.result.now))
    c.new.ensures.items
    ∙ ap (λ members. c.loop-relation.sets ++ map (rising c.args.model.now) (choose order members)) c.as_slice-members.ensures)
    c.loop-relation.invariant

pub returns : goal.returns
returns c =
    let subsets : Group → List (List ℕ) = λ relation. choose relation.order relation.members in
    let set : List ℕ → List ℕ = rising c.args.model.now in
    flat_end (λ relation. map set (subsets relation)) c.args.relations.now c.loop-relation.relation-index c.loop-relation.sets _ c.loop-relation-test.false
    c.loop-relation.invariant
    ∙ ap (λ ys. c.args.sets.now ++ ys) (sym (map_flat_map set subsets c.args.relations.now))
