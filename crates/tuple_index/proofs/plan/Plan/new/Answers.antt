use Rattle.std.proofs.Common.{◌≡◌, length}
use Rattle.definitions.specs.believed.Demand.{demanded_tuples}
use Rattle.tuple_index.specs.believed.PlanFault.{saturated}
use Rattle.tuple_index.proofs.PlanLemmas.{made_is, none_passed, sets_few, sets_rise, total_told, tuples_passed}
use Rattle.tuple_index.proofs.plan.Plan.new.Goals as goal

pub count_all-tuples-requires : goal.count_all-tuples-requires
count_all-tuples-requires c = sets_rise c.args.model.now c.in_ok-values.values c.in_ok-sets.sets c.in_ok-values.ensures c.in_ok-sets.ensures

pub returns-then-tuples-clause-refused : goal.returns-then-tuples-clause-refused
returns-then-tuples-clause-refused c =
    let total : c.count_all-tuples.result ≡ saturated (length (demanded_tuples c.args.model.now)) =
    total_told c.args.model.now c.in_ok-values.values c.in_ok-sets.sets c.count_all-tuples.result c.in_ok-values.ensures c.in_ok-sets.ensures
    c.count_all-tuples.ensures in
    tuples_passed c.args.model.now c.in_ok-choices.choices c.count_all-tuples.result c.in_ok-choices.ensures c.if-choices.false total c.if-tuples.true

pub with_sets-requires-clause-rising : goal.with_sets-requires-clause-rising
with_sets-requires-clause-rising c = sets_rise c.args.model.now c.in_ok-values.values c.in_ok-sets.sets c.in_ok-values.ensures c.in_ok-sets.ensures

pub with_sets-requires-clause-few : goal.with_sets-requires-clause-few
with_sets-requires-clause-few c =
    sets_few c.args.model.now c.in_ok-sets.sets c.in_ok-choices.choices c.in_ok-choices.ensures c.if-choices.false c.in_ok-sets.ensures

pub returns-clause-made : goal.returns-clause-made
returns-clause-made c = made_is c.args.model.now c.in_ok-values.values c.in_ok-with_sets.field-0 c.in_ok-sets.sets c.in_ok-values.ensures c.in_ok-sets.ensures
    c.in_ok-with_sets.ensures

pub returns-clause-within : goal.returns-clause-within
returns-clause-within c =
    let total : c.count_all-tuples.result ≡ saturated (length (demanded_tuples c.args.model.now)) =
    total_told c.args.model.now c.in_ok-values.values c.in_ok-sets.sets c.count_all-tuples.result c.in_ok-values.ensures c.in_ok-sets.ensures
    c.count_all-tuples.ensures in
    none_passed c.args.model.now c.in_ok-choices.choices c.count_all-tuples.result c.in_ok-choices.ensures c.if-choices.false total c.if-tuples.false
