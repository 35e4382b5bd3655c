use Rattle.std.proofs.Common.{◌+◌, ◌<◌, ℕ, List, [], length, ap, sym, subst, ◌∙◌, arith}
use Rattle.std.proofs.lemmas.Result.{err_from_is_err_and}
use Rattle.cov_model.specs.believed.Sound.{ModelView}
use Rattle.definitions.specs.declared.effort.Effort.{Effort}
use Rattle.definitions.specs.believed.Demand.{demanded_sets, tuples_of}
use Rattle.definitions.specs.believed.Search.{first_over}
use Rattle.tuple_index.specs.Plan.{PlanView, set_at}
use Rattle.feasibility.specs.Ends.{EndsBy}
use Rattle.coverage_measure.specs.SetFigures.{IsWithin}
use Rattle.coverage_measure.proofs.CountLemmas.{is_over}
use Rattle.coverage_measure.proofs.EndLemmas.{ends_item, none_more}
use Rattle.coverage_measure.proofs.FigureLemmas.{set_added}
use Rattle.coverage_measure.proofs.SetLemmas.{within_more}
use Rattle.coverage_measure.proofs.measuring.measure_sets.Goals as goal

pub returns-in_err-servable-clause-ends : goal.returns-in_err-servable-clause-ends
returns-in_err-servable-clause-ends c =
    let p = err_from_is_err_and c.from_residual.result c.from_residual.ensures.1 in
    let m : ModelView = c.args.asking.now.model.now in
    let pref : List (List ℕ) = c.args.asking.now.prefs.now in
    let effort : Effort = c.args.asking.now.effort in
    let same = ap (λ (plan : PlanView). set_at plan c.loop-set.set) c.requires.plan in
    let within : c.loop-set.set < length (demanded_sets m) = subst (λ (plan : PlanView). c.loop-set.set < length plan.sets) c.requires.plan (omega (arith, c.loop-set-test.true)) in
    rw (p.1, p.2)
    (ends_item (is_over m pref effort) (tuples_of m) (demanded_sets m) c.loop-set.set [] c.in_err-servable.field-0.0 within c.loop-set.invariant.2
    (subst (λ (set : List ℕ). EndsBy (first_over m pref effort (tuples_of m set)) c.in_err-servable.field-0.0) same c.in_err-servable.ensures.ends))

pub loop-set-preserved : goal.loop-set-preserved
loop-set-preserved c =
    let m : ModelView = c.args.asking.now.model.now in
    let pref : List (List ℕ) = c.args.asking.now.prefs.now in
    let effort : Effort = c.args.asking.now.effort in
    let set = c.loop-set.set in
    let servable = c.in_ok-servable.servable in
    let covered = c.count_covered-covered.result in
    let same = ap (λ (plan : PlanView). set_at plan set) c.requires.plan in
    let exists : set < length c.args.plan.now.sets = omega (arith, c.loop-set-test.true) in
    let within : set < length (demanded_sets m) = subst (λ (plan : PlanView). set < length plan.sets) c.requires.plan exists in (
      c.in_ok-servable.ensures.kept,
      subst (IsWithin (set + 1)) (sym c.add.ensures) (within_more set servable covered c.loop-set.figures (omega arith) (omega arith) c.loop-set.invariant.1),
      none_more (is_over m pref effort) (tuples_of m) (demanded_sets m) set [] within c.loop-set.invariant.2
          (ap (λ (set : List ℕ). first_over m pref effort (tuples_of m set)) (sym same) ∙ c.in_ok-servable.ensures.ends),
      λ rows are.
          set_added m c.args.plan.now rows c.args.marks.now set servable covered c.loop-set.figures c.add.new.self c.requires.plan exists are
          (c.loop-set.invariant.3 rows are) c.in_ok-servable.ensures.count c.count_covered-covered.ensures c.add.ensures,
    )
