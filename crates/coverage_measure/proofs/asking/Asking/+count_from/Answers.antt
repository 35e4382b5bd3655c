use Rattle.std.proofs.Common.{◌<◌, ◌+◌, length, get_or, set, take, drop, find, None, refl, ◌∙◌, sym, ap, subst, arith}
use Rattle.std.proofs.lemmas.Result.{err_from_is_err_and}
use Rattle.cov_model.specs.believed.Sound.{ModelView}
use Rattle.cov_model.proofs.CellLemmas.{length-slice_values}
use Rattle.feasibility.specs.Ends.{EndsBy}
use Rattle.feasibility.proofs.Nodes.{set_clear}
use Rattle.coverage_measure.specs.Asking.{IsBefore, IsFor, is_above, is_found, tally}
use Rattle.coverage_measure.specs.declared.asking.KeptQuestions.{KeptQuestions}
use Rattle.coverage_measure.proofs.CountLemmas.{before_here, before_next, counted_more, free_here, is_step, member_tried, next_few, rows_with}
use Rattle.coverage_measure.proofs.CountLemmas.{step_asks, step_few, tried_all, tried_ends, values_of}
use Rattle.coverage_measure.proofs.asking.Asking.+count_from.Goals as goal

pub values_tried-tried-requires : goal.values_tried-tried-requires
values_tried-tried-requires t c =
    let m : ModelView = c.args.self.now.model.now in
    let within : c.args.place < length c.args.members.now = omega arith in
    omega (
      arith,
      (before_here m c.args.kept.now.slice c.args.members.now c.args.place c.args.cells.now within c.requires.before).rising.1,
      ap length c.requires.kept.values,
      length-slice_values m c.args.kept.now.slice,
    )

pub count_from-requires : goal.count_from-requires
count_from-requires t c =
    let m : ModelView = c.args.self.now.model.now in
    let one : KeptQuestions = c.args.kept.now in
    let members = c.args.members.now in
    let place = c.args.place in
    let cells = c.args.cells.now in
    let tried = c.values_tried-tried.result.0 in
    let v = get_or c.list.result.now c.loop-i.i 0 in
    let within : place < length members = omega arith in
    let step = is_step m c.args.self.now.prefs.now c.args.self.now.effort one c.loop-i.kept members place cells c.loop-i.cells c.set_cell.new.self
    c.list.result.now tried
    c.values_tried-tried.result.1 c.loop-i.i c.requires.kept c.requires.before within c.values_tried-tried.ensures.tried c.values_tried-tried.ensures.each
    c.loop-i-test.true c.loop-i.invariant.0 c.loop-i.invariant.1 c.list.ensures c.set_cell.ensures in (
      omega (arith, within),
      (
        c.requires.orders,
        (
          subst (IsFor m c.args.self.now.prefs.now c.args.self.now.effort) (sym c.loop-i.invariant.0) c.requires.kept,
          (
            omega (arith, within),
            (
              subst (λ (now : KeptQuestions). IsBefore m now.slice (drop (place + 1) members) c.set_cell.new.self) (sym c.loop-i.invariant.0)
                  (subst (IsBefore m one.slice (drop (place + 1) members)) (sym step.given)
                  (before_next m one.slice members place tried c.loop-i.i v cells c.requires.kept.slice within c.requires.before step.at)),
              omega (
                arith,
                next_few m one.slice members place tried c.loop-i.i v cells within step.at,
                step_asks (λ slice rows. length rows) m one c.loop-i.kept members place cells c.set_cell.new.self v c.loop-i.invariant.0 step.given,
                c.requires.few,
              ),
            ),
          ),
        ),
      ),
    )

pub returns-in_err-count-clause-ends : goal.returns-in_err-count-clause-ends
returns-in_err-count-clause-ends t c =
    let told = err_from_is_err_and c.from_residual.result c.from_residual.ensures.1 in
    let m : ModelView = c.args.self.now.model.now in
    let pref = c.args.self.now.prefs.now in
    let effort = c.args.self.now.effort in
    let one : KeptQuestions = c.args.kept.now in
    let members = c.args.members.now in
    let place = c.args.place in
    let cells = c.args.cells.now in
    let tried = c.values_tried-tried.result.0 in
    let each = c.values_tried-tried.result.1 in
    let v = get_or c.list.result.now c.loop-i.i 0 in
    let step = is_step m pref effort one c.loop-i.kept members place cells c.loop-i.cells c.set_cell.new.self c.list.result.now tried each c.loop-i.i
    c.requires.kept c.requires.before (omega arith) c.values_tried-tried.ensures.tried c.values_tried-tried.ensures.each c.loop-i-test.true
    c.loop-i.invariant.0 c.loop-i.invariant.1 c.list.ensures c.set_cell.ensures in
    rw (told.1, told.2)
    (tried_ends m pref one.slice effort members place cells tried each c.loop-i.i c.loop-i.count v c.in_err-count.field-0.0 step.within step.at
    c.loop-i.invariant.2
    (subst (λ over. EndsBy over c.in_err-count.field-0.0)
    (step_asks (λ slice rows. find (is_above m pref slice effort) rows) m one c.loop-i.kept members place cells c.set_cell.new.self v c.loop-i.invariant.0
    step.given)
    c.in_err-count.ensures.ends))

pub overflow_mul-count : goal.overflow_mul-count
overflow_mul-count t c =
    let m : ModelView = c.args.self.now.model.now in
    let pref = c.args.self.now.prefs.now in
    let effort = c.args.self.now.effort in
    let one : KeptQuestions = c.args.kept.now in
    let members = c.args.members.now in
    let place = c.args.place in
    let cells = c.args.cells.now in
    let tried = c.values_tried-tried.result.0 in
    let each = c.values_tried-tried.result.1 in
    let v = get_or c.list.result.now c.loop-i.i 0 in
    let step = is_step m pref effort one c.loop-i.kept members place cells c.loop-i.cells c.set_cell.new.self c.list.result.now tried each c.loop-i.i
    c.requires.kept c.requires.before (omega arith) c.values_tried-tried.ensures.tried c.values_tried-tried.ensures.each c.loop-i-test.true
    c.loop-i.invariant.0 c.loop-i.invariant.1 c.list.ensures c.set_cell.ensures in
    let few = step_few m pref one.slice effort members place cells c.set_cell.new.self tried each c.loop-i.i v c.loop-i.count c.in_ok-count.field-0 step
    c.loop-i.invariant.2
    (c.in_ok-count.ensures.count ∙ step_asks (λ slice rows. tally (is_found m pref slice) rows) m one c.loop-i.kept members place cells c.set_cell.new.self v
    c.loop-i.invariant.0 step.given) in
    omega (arith, few, c.requires.few)

pub overflow_add-count : goal.overflow_add-count
overflow_add-count t c =
    let m : ModelView = c.args.self.now.model.now in
    let pref = c.args.self.now.prefs.now in
    let effort = c.args.self.now.effort in
    let one : KeptQuestions = c.args.kept.now in
    let members = c.args.members.now in
    let place = c.args.place in
    let cells = c.args.cells.now in
    let tried = c.values_tried-tried.result.0 in
    let each = c.values_tried-tried.result.1 in
    let v = get_or c.list.result.now c.loop-i.i 0 in
    let step = is_step m pref effort one c.loop-i.kept members place cells c.loop-i.cells c.set_cell.new.self c.list.result.now tried each c.loop-i.i
    c.requires.kept c.requires.before (omega arith) c.values_tried-tried.ensures.tried c.values_tried-tried.ensures.each c.loop-i-test.true
    c.loop-i.invariant.0 c.loop-i.invariant.1 c.list.ensures c.set_cell.ensures in
    let few = step_few m pref one.slice effort members place cells c.set_cell.new.self tried each c.loop-i.i v c.loop-i.count c.in_ok-count.field-0 step
    c.loop-i.invariant.2
    (c.in_ok-count.ensures.count ∙ step_asks (λ slice rows. tally (is_found m pref slice) rows) m one c.loop-i.kept members place cells c.set_cell.new.self v
    c.loop-i.invariant.0 step.given) in
    omega (arith, few, c.requires.few)

pub loop-i-preserved : goal.loop-i-preserved
loop-i-preserved t c =
    let m : ModelView = c.args.self.now.model.now in
    let pref = c.args.self.now.prefs.now in
    let effort = c.args.self.now.effort in
    let one : KeptQuestions = c.args.kept.now in
    let members = c.args.members.now in
    let place = c.args.place in
    let cells = c.args.cells.now in
    let p = get_or members place 0 in
    let tried = c.values_tried-tried.result.0 in
    let each = c.values_tried-tried.result.1 in
    let v = get_or c.list.result.now c.loop-i.i 0 in
    let step = is_step m pref effort one c.loop-i.kept members place cells c.loop-i.cells c.set_cell.new.self c.list.result.now tried each c.loop-i.i
    c.requires.kept c.requires.before (omega arith) c.values_tried-tried.ensures.tried c.values_tried-tried.ensures.each c.loop-i-test.true
    c.loop-i.invariant.0 c.loop-i.invariant.1 c.list.ensures c.set_cell.ensures in (
      c.count_from.ensures.kept ∙ c.loop-i.invariant.0,
      c.clear_cell.ensures ∙ ap (λ row. set row p None) (c.in_ok-count.ensures.cells ∙ step.given)
          ∙ set_clear cells p v (free_here m one.slice members place cells step.within c.requires.before),
      counted_more (is_found m pref one.slice) (is_above m pref one.slice effort) (rows_with m one.slice members place cells)
          (take tried (values_of m one.slice members place)) each
          c.loop-i.i c.loop-i.count c.in_ok-count.field-0 _ v step.at.within step.at.is c.loop-i.invariant.2
          (c.in_ok-count.ensures.count ∙ step_asks (λ slice rows. tally (is_found m pref slice) rows) m one c.loop-i.kept members place cells
          c.set_cell.new.self v c.loop-i.invariant.0
          step.given)
          (sym (step_asks (λ slice rows. find (is_above m pref slice effort) rows) m one c.loop-i.kept members place cells c.set_cell.new.self v
          c.loop-i.invariant.0 step.given)
          ∙ c.in_ok-count.ensures.ends)
          refl,
    )

pub returns-clause-count : goal.returns-clause-count
returns-clause-count t c =
    let m : ModelView = c.args.self.now.model.now in
    let one : KeptQuestions = c.args.kept.now in
    let members = c.args.members.now in
    let within : c.args.place < length members = omega arith in
    let are = member_tried m c.args.self.now.prefs.now c.args.self.now.effort one members c.args.place c.args.cells.now c.values_tried-tried.result.0
    c.values_tried-tried.result.1 c.requires.kept (before_here m one.slice members c.args.place c.args.cells.now within c.requires.before).rising.1
    c.values_tried-tried.ensures.tried c.values_tried-tried.ensures.each in
    (tried_all m c.args.self.now.prefs.now one.slice c.args.self.now.effort members c.args.place c.args.cells.now c.values_tried-tried.result.0
    c.values_tried-tried.result.1 c.loop-i.i c.loop-i.count within (omega (arith, c.loop-i-test.false)) are c.loop-i.invariant.2).counted

pub returns-clause-ends : goal.returns-clause-ends
returns-clause-ends t c =
    let m : ModelView = c.args.self.now.model.now in
    let one : KeptQuestions = c.args.kept.now in
    let members = c.args.members.now in
    let within : c.args.place < length members = omega arith in
    let are = member_tried m c.args.self.now.prefs.now c.args.self.now.effort one members c.args.place c.args.cells.now c.values_tried-tried.result.0
    c.values_tried-tried.result.1 c.requires.kept (before_here m one.slice members c.args.place c.args.cells.now within c.requires.before).rising.1
    c.values_tried-tried.ensures.tried c.values_tried-tried.ensures.each in
    (tried_all m c.args.self.now.prefs.now one.slice c.args.self.now.effort members c.args.place c.args.cells.now c.values_tried-tried.result.0
    c.values_tried-tried.result.1 c.loop-i.i c.loop-i.count within (omega (arith, c.loop-i-test.false)) are c.loop-i.invariant.2).none
