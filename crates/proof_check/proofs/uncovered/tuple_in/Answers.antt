use Rattle.std.proofs.Common.{◌≡◌, ℕ, List, Option, Some, length, ◌∙◌, sym, ap, subst, arith}
use Rattle.std.specs.Prelude.{slice_get}
use Rattle.std.proofs.lemmas.Result.{IfOk-weaker}
use Rattle.definitions.specs.believed.Demand.{tuples_of}
use Rattle.definitions.specs.believed.Pairs.{pairs_of}
use Rattle.tuple_index.specs.Places.{RisesFrom}
use Rattle.tuple_index.specs.Plan.{set_at}
use Rattle.tuple_index.proofs.RankLemmas.{choice_long}
use Rattle.proof_check.specs.Left.{pairs_with}
use Rattle.proof_check.proofs.TupleSteps.{rises_wider, same_tuple, set_rises}
use Rattle.proof_check.proofs.uncovered.tuple_in.Goals as goal

pub tuple_of-requires-clause-rising : goal.tuple_of-requires-clause-rising
tuple_of-requires-clause-rising c =
    let m = c.args.model.now in
    let plan = c.args.plan.now in
    subst (RisesFrom 0 256) (sym c.members.ensures)
    (rises_wider 0 (length m.params) 0 256 (set_at plan c.args.set) (omega arith) (omega (arith, c.assert_invariant.ensures.few))
    (set_rises m plan c.args.set c.requires.plan c.assert_invariant-2.ensures.rising c.requires.set))

pub tuple_of-requires-clause-as_long : goal.tuple_of-requires-clause-as_long
tuple_of-requires-clause-as_long c =
    let plan = c.args.plan.now in
    let choice = c.unrank.ensures.choice c.args.model.now c.requires.plan in
    choice_long plan (set_at plan c.args.set) c.unrank.new.into choice.exist ∙ ap (λ (set : List ℕ). length set) (sym c.members.ensures)

pub returns : goal.returns
returns c =
    let m = c.args.model.now in
    let plan = c.args.plan.now in
    let set = c.args.set in
    let values = c.unrank.new.into in
    IfOk-weaker c.tuple_of.result (λ pairs. pairs ≡ pairs_with c.members.result.now values)
    (λ pairs. (cells : List (Option ℕ)) → slice_get (tuples_of m (set_at plan set)) c.args.rank ≡ Some cells → pairs ≡ pairs_of cells)
    (λ pairs is cells here.
    same_tuple m plan set c.args.rank values cells pairs c.requires.plan c.assert_invariant-2.ensures.rising c.requires.set
    (c.unrank.ensures.choice m c.requires.plan) (c.unrank.ensures.tuple m c.requires.plan)
    (is ∙ ap (λ (members : List ℕ). pairs_with members values) c.members.ensures) here)
    c.tuple_of.ensures
