use Rattle.std.proofs.Common.{◌<◌, ◌^◌, ℕ, List, length, get_or, refl, ◌∙◌, sym, ap, subst, arith}
use Rattle.std.proofs.lemmas.List.{get_or_default}
use Rattle.std.proofs.lemmas.Result.{err_from_is_err_and}
use Rattle.cov_model.specs.believed.Sound.{ModelView}
use Rattle.cov_model.specs.declared.slice.Slice.TheVariants.{Positive}
use Rattle.definitions.specs.declared.effort.Effort.{Effort}
use Rattle.definitions.specs.believed.Demand.{tuples_in, tuples_of}
use Rattle.definitions.specs.believed.Figures.{all_rows, is_served}
use Rattle.definitions.specs.believed.Search.{first_over}
use Rattle.feasibility.specs.Ends.{EndsBy}
use Rattle.tuple_index.specs.Places.{RisesFrom}
use Rattle.tuple_index.specs.Plan.{set_at}
use Rattle.coverage_measure.specs.Asking.{tally}
use Rattle.coverage_measure.proofs.CountLemmas.{members_rise, negative_tuples, tuples_few}
use Rattle.coverage_measure.proofs.SliceCounts.{member_ends, negative_part, positive_ends, served_few, served_more, set_counted}
use Rattle.coverage_measure.proofs.servable.count_servable.Goals as goal

pub count_in-requires-clause-rising : goal.count_in-requires-clause-rising
count_in-requires-clause-rising c =
    let m : ModelView = c.args.asking.now.model.now in
    subst (RisesFrom 0 (length m.params)) (sym c.members-members.ensures) (members_rise m c.args.plan.now c.args.set c.requires.plan c.requires.set)

pub count_in-requires-clause-few : goal.count_in-requires-clause-few
count_in-requires-clause-few c =
    let m : ModelView = c.args.asking.now.model.now in
    let few : length (tuples_of m (set_at c.args.plan.now c.args.set)) < 2 ^ 32 =
    omega (arith, tuples_few m c.args.plan.now c.args.set c.requires.plan c.assert_invariant-2.ensures c.requires.set) in
    subst (λ set. length (tuples_of m set) < 2 ^ 32) (sym c.members-members.ensures) few

pub returns-in_err-positive-clause-ends : goal.returns-in_err-positive-clause-ends
returns-in_err-positive-clause-ends c =
    let told = err_from_is_err_and c.from_residual-in_err-positive.result c.from_residual-in_err-positive.ensures.1 in
    let m : ModelView = c.args.asking.now.model.now in
    let pref : List (List ℕ) = c.args.asking.now.prefs.now in
    let effort : Effort = c.args.asking.now.effort in
    rw (told.1, told.2)
    (positive_ends m pref effort (set_at c.args.plan.now c.args.set) c.in_err-positive.field-0.0
    (members_rise m c.args.plan.now c.args.set c.requires.plan c.requires.set)
    (subst (λ set. EndsBy (first_over m pref effort (tuples_in m set Positive)) c.in_err-positive.field-0.0) c.members-members.ensures
    c.in_err-positive.ensures.ends))

pub count_negative-requires-clause-rising : goal.count_negative-requires-clause-rising
count_negative-requires-clause-rising c =
    let m : ModelView = c.args.asking.now.model.now in
    subst (RisesFrom 0 (length m.params)) (sym c.members-members.ensures) (members_rise m c.args.plan.now c.args.set c.requires.plan c.requires.set)

pub count_negative-requires-clause-few : goal.count_negative-requires-clause-few
count_negative-requires-clause-few c =
    let m : ModelView = c.args.asking.now.model.now in
    let few : length (tuples_of m (set_at c.args.plan.now c.args.set)) < 2 ^ 32 =
    omega (arith, tuples_few m c.args.plan.now c.args.set c.requires.plan c.assert_invariant-2.ensures c.requires.set) in
    subst (λ set. length (tuples_of m set) < 2 ^ 32) (sym c.members-members.ensures) few

pub returns-in_err-negative-clause-ends : goal.returns-in_err-negative-clause-ends
returns-in_err-negative-clause-ends c =
    let told = err_from_is_err_and c.from_residual-in_err-negative.result c.from_residual-in_err-negative.ensures.1 in
    let m : ModelView = c.args.asking.now.model.now in
    let pref : List (List ℕ) = c.args.asking.now.prefs.now in
    let effort : Effort = c.args.asking.now.effort in
    let same = c.members-members.ensures in
    rw (told.1, told.2)
    (member_ends m pref effort (set_at c.args.plan.now c.args.set) c.loop-q.q-index 0 c.loop-q.negative c.in_err-negative.field-0.0
    (members_rise m c.args.plan.now c.args.set c.requires.plan c.requires.set) (omega (arith, c.loop-q-test.true, ap length same))
    (ap (λ set. first_over m pref effort (tuples_in m set Positive)) (sym same) ∙ c.in_ok-positive.ensures.ends) c.loop-q.invariant.2
    (subst (λ set. EndsBy (first_over m pref effort (negative_tuples m set (get_or set c.loop-q.q-index 0))) c.in_err-negative.field-0.0) same
    c.in_err-negative.ensures.ends))

pub overflow_add-negative : goal.overflow_add-negative
overflow_add-negative c =
    let m : ModelView = c.args.asking.now.model.now in
    let set = set_at c.args.plan.now c.args.set in
    let same = c.members-members.ensures in
    let within : c.loop-q.q-index < length set = omega (arith, c.loop-q-test.true, ap length same) in
    let q = get_or set c.loop-q.q-index 0 in
    let few = served_few m c.args.asking.now.prefs.now c.args.asking.now.effort (negative_tuples m set) set c.loop-q.q-index c.loop-q.negative
    c.in_ok-negative.field-0 q within
    (get_or_default set c.loop-q.q-index 0 q within) c.loop-q.invariant.2
    (c.in_ok-negative.ensures.count ∙ ap (λ set. tally (is_served m (all_rows m)) (negative_tuples m set (get_or set c.loop-q.q-index 0))) same) in
    omega (
      arith,
      few,
      negative_part m set (members_rise m c.args.plan.now c.args.set c.requires.plan c.requires.set),
      tuples_few m c.args.plan.now c.args.set c.requires.plan c.assert_invariant-2.ensures c.requires.set,
    )

pub loop-q-preserved : goal.loop-q-preserved
loop-q-preserved c =
    let m : ModelView = c.args.asking.now.model.now in
    let pref : List (List ℕ) = c.args.asking.now.prefs.now in
    let effort : Effort = c.args.asking.now.effort in
    let set = set_at c.args.plan.now c.args.set in
    let same = c.members-members.ensures in
    let within : c.loop-q.q-index < length set = omega (arith, c.loop-q-test.true, ap length same) in
    let q = get_or set c.loop-q.q-index 0 in (
      c.in_ok-negative.ensures.cells ∙ c.loop-q.invariant.0,
      c.in_ok-negative.ensures.kept,
      served_more m pref effort (negative_tuples m set) set c.loop-q.q-index c.loop-q.negative c.in_ok-negative.field-0 _ q within
          (get_or_default set c.loop-q.q-index 0 q within) c.loop-q.invariant.2
          (c.in_ok-negative.ensures.count ∙ ap (λ set. tally (is_served m (all_rows m)) (negative_tuples m set (get_or set c.loop-q.q-index 0))) same)
          (ap (λ set. first_over m pref effort (negative_tuples m set (get_or set c.loop-q.q-index 0))) (sym same) ∙ c.in_ok-negative.ensures.ends) refl,
    )

pub overflow_add-result : goal.overflow_add-result
overflow_add-result c =
    let m : ModelView = c.args.asking.now.model.now in
    let pref : List (List ℕ) = c.args.asking.now.prefs.now in
    let effort : Effort = c.args.asking.now.effort in
    let same = c.members-members.ensures in
    let counted = set_counted m pref effort (set_at c.args.plan.now c.args.set) c.loop-q.q-index c.in_ok-positive.positive c.loop-q.negative
    (members_rise m c.args.plan.now c.args.set c.requires.plan c.requires.set) (omega (arith, c.loop-q-test.false, ap length same))
    (c.in_ok-positive.ensures.count ∙ ap (λ set. tally (is_served m (all_rows m)) (tuples_in m set Positive)) same)
    (ap (λ set. first_over m pref effort (tuples_in m set Positive)) (sym same) ∙ c.in_ok-positive.ensures.ends) c.loop-q.invariant.2 in
    omega (arith, counted.few, tuples_few m c.args.plan.now c.args.set c.requires.plan c.assert_invariant-2.ensures c.requires.set)

pub overflow_cast-result : goal.overflow_cast-result
overflow_cast-result c =
    let m : ModelView = c.args.asking.now.model.now in
    let pref : List (List ℕ) = c.args.asking.now.prefs.now in
    let effort : Effort = c.args.asking.now.effort in
    let same = c.members-members.ensures in
    let counted = set_counted m pref effort (set_at c.args.plan.now c.args.set) c.loop-q.q-index c.in_ok-positive.positive c.loop-q.negative
    (members_rise m c.args.plan.now c.args.set c.requires.plan c.requires.set) (omega (arith, c.loop-q-test.false, ap length same))
    (c.in_ok-positive.ensures.count ∙ ap (λ set. tally (is_served m (all_rows m)) (tuples_in m set Positive)) same)
    (ap (λ set. first_over m pref effort (tuples_in m set Positive)) (sym same) ∙ c.in_ok-positive.ensures.ends) c.loop-q.invariant.2 in
    omega (arith, counted.few, tuples_few m c.args.plan.now c.args.set c.requires.plan c.assert_invariant-2.ensures c.requires.set)

pub returns-clause-count : goal.returns-clause-count
returns-clause-count c =
    let m : ModelView = c.args.asking.now.model.now in
    let pref : List (List ℕ) = c.args.asking.now.prefs.now in
    let effort : Effort = c.args.asking.now.effort in
    let same = c.members-members.ensures in
    (set_counted m pref effort (set_at c.args.plan.now c.args.set) c.loop-q.q-index c.in_ok-positive.positive c.loop-q.negative
    (members_rise m c.args.plan.now c.args.set c.requires.plan c.requires.set) (omega (arith, c.loop-q-test.false, ap length same))
    (c.in_ok-positive.ensures.count ∙ ap (λ set. tally (is_served m (all_rows m)) (tuples_in m set Positive)) same)
    (ap (λ set. first_over m pref effort (tuples_in m set Positive)) (sym same) ∙ c.in_ok-positive.ensures.ends) c.loop-q.invariant.2).count

pub returns-clause-ends : goal.returns-clause-ends
returns-clause-ends c =
    let m : ModelView = c.args.asking.now.model.now in
    let pref : List (List ℕ) = c.args.asking.now.prefs.now in
    let effort : Effort = c.args.asking.now.effort in
    let same = c.members-members.ensures in
    (set_counted m pref effort (set_at c.args.plan.now c.args.set) c.loop-q.q-index c.in_ok-positive.positive c.loop-q.negative
    (members_rise m c.args.plan.now c.args.set c.requires.plan c.requires.set) (omega (arith, c.loop-q-test.false, ap length same))
    (c.in_ok-positive.ensures.count ∙ ap (λ set. tally (is_served m (all_rows m)) (tuples_in m set Positive)) same)
    (ap (λ set. first_over m pref effort (tuples_in m set Positive)) (sym same) ∙ c.in_ok-positive.ensures.ends) c.loop-q.invariant.2).none
