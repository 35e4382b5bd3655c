use Rattle.tuple_index.proofs.PlanLemmas.{same_values}
use Rattle.tuple_index.proofs.plan.Plan.without_sets.Goals as goal

pub returns : goal.returns
returns c =
    same_values c.args.model.now _ c.new.ensures c.new-2.ensures.items c.in_ok-positive.ensures c.in_ok-negative.ensures
