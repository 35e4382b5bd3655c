use Rattle.std.proofs.Common.{◌≡◌, ◌++◌, [], List, ℕ, map, get_or, ◌∙◌, sym, ap, length}
use Rattle.std.specs.List.{flat_map, range_with_len}
use Rattle.definitions.specs.believed.Demand.{choose, rising, unions}
use Rattle.tuple_index.proofs.ListingLemmas.{map_flat_map}
use Rattle.tuple_index.proofs.ChoiceLemmas.{flat_step, flat_end, choices_at}
use Rattle.tuple_index.proofs.demand.push_unions.Goals as goal

pub loop-pick-preserved : goal.loop-pick-preserved
loop-pick-preserved c =
    let united : List ℕ → List (List ℕ) = λ pick. unions (map (λ u. get_or c.args.units.now u []) pick) in
    let pieces : List ℕ → List (List ℕ) = λ pick. map (rising c.args.model.now) (united pick) in
    flat_step pieces c.as_slice-pick-items.result.now c.loop-pick.pick-index c.pick-item.result c.loop-pick.sets c.push_each.new.sets
    _ c.loop-pick-test.true c.pick-item.is
    (c.in_ok-push_each.ensures ∙ ap (λ choices. c.loop-pick.sets ++ map (rising c.args.model.now) choices)
    (c.as_slice-in-loop-pick-2.ensures ∙ c.in_ok-unions.ensures ∙ ap united c.as_slice-in-loop-pick.ensures))
    c.loop-pick.invariant

pub returns : goal.returns
returns c =
    let set : List ℕ → List ℕ = rising c.args.model.now in
    let sets_of : List (List (List ℕ)) → List (List ℕ) = λ taken. map set (unions taken) in
    let pieces : List ℕ → List (List ℕ) = λ pick. sets_of (map (λ u. get_or c.args.units.now u []) pick) in
    let picks : c.as_slice-pick-items.result.now ≡ choose c.args.k (range_with_len 0 (length c.args.units.now)) =
    c.as_slice-pick-items.ensures ∙ c.in_ok-picks.ensures ∙ ap (choose c.args.k) (c.as_slice.ensures.value ∙ c.in_ok-numbers.ensures) in
    flat_end pieces c.as_slice-pick-items.result.now c.loop-pick.pick-index c.loop-pick.sets (c.args.sets.now ++ flat_map pieces c.as_slice-pick-items.result.now)
    c.loop-pick-test.false c.loop-pick.invariant
    ∙ ap (λ ys. c.args.sets.now ++ ys) (choices_at sets_of c.args.k c.args.units.now [] c.as_slice-pick-items.result.now picks
    ∙ sym (map_flat_map set unions (choose c.args.k c.args.units.now)))
