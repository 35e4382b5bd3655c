use Rattle.std.proofs.Common.{◌≡◌, ℕ, ◌-◌, List, [], Option, Some, get_or, ap, arith}
use Rattle.std.specs.Prelude.{slice_get, sum}
use Rattle.std.proofs.lemmas.Result.{IfOk-weaker}
use Rattle.definitions.specs.believed.Demand.{demanded_tuples, tuples_of}
use Rattle.definitions.specs.believed.Pairs.{pairs_of}
use Rattle.tuple_index.specs.Plan.{PlanView, set_at}
use Rattle.shared_marks.proofs.PlaceLemmas.{all_places}
use Rattle.proof_check.proofs.TupleSteps.{in_place}
use Rattle.proof_check.proofs.uncovered.tuple_at.Goals as goal

pub set_holding-set-requires : goal.set_holding-set-requires
set_holding-set-requires c =
    omega (arith, c.requires.place, all_places c.args.model.now, ap (λ (plan : PlanView). sum plan.sizes) c.requires.plan)

pub returns : goal.returns
returns c =
    let m = c.args.model.now in
    let plan = c.args.plan.now in
    let set = c.set_holding-set.result in
    let place = c.args.place in
    let held = c.set_holding-set.ensures in
    IfOk-weaker c.tuple_in.result
    (λ tuple. (cells : List (Option ℕ)) → slice_get (tuples_of m (set_at plan set)) (place - c.base.result) ≡ Some cells → tuple ≡ pairs_of cells)
    (λ tuple. tuple ≡ pairs_of (get_or (demanded_tuples m) place []))
    (λ tuple is. is (get_or (demanded_tuples m) place [])
    (in_place m plan set place c.base.result c.requires.plan held.exists c.base.ensures held.low held.high c.requires.place))
    c.tuple_in.ensures
