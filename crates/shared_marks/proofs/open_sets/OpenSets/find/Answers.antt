use Rattle.std.proofs.Common.{◌≡◌, ◌+◌, ◌-◌, ◌<◌, false, ap, arith, get_or, length, subst, sym, ◌∙◌}
use Rattle.tuple_index.specs.Plan.{set_at}
use Rattle.shared_marks.specs.declared.open_sets.Line.{Line}
use Rattle.shared_marks.specs.OpenSets.{AreOpen, front}
use Rattle.shared_marks.proofs.OpenLemmas.{IsFound, found_complete, found_none, found_open}
use Rattle.shared_marks.proofs.open_sets.OpenSets.find.Goals.{then-not-are_marked+in_ok-push, else-not-are_marked}
use Rattle.shared_marks.proofs.open_sets.OpenSets.find.Goals as goal

pub loop-set-preserved : goal.loop-set-preserved
loop-set-preserved c =
    let plan = c.args.plan.now in
    let set = c.loop-set.set in
    elim c.if-not-are_marked.branch [
      | then-not-are_marked+in_ok-push w ↦
          let pushed = ap (λ list. list.items) w.lines-is ∙ w.in_ok-push.ensures.items in
          subst (λ lines. IsFound plan lines (set + 1) c.args.seat.now c.are_marked.new.seat) (sym pushed)
          (found_open plan c.loop-set.lines.items set w.line_of-line.result c.args.seat.now c.loop-set.seat c.are_marked.new.seat c.loop-set.invariant
          (omega arith) c.are_marked.ensures.seat w.line_of-line.ensures.number w.line_of-line.ensures.line
          (subst (λ lines. w.line_of-line.result.is_fresh ≡ false → (0 < length lines)
          × ((other : Line) → front (set_at plan set) ≡ front (set_at plan (get_or lines (length lines - 1) other).set))) w.as_slice.ensures.value
          w.line_of-line.ensures.same))
      | else-not-are_marked w ↦
          subst (λ lines. IsFound plan lines (set + 1) c.args.seat.now c.are_marked.new.seat) (sym (ap (λ list. list.items) w.lines-is))
          (found_complete plan c.loop-set.lines.items set c.base-base.result c.size.result c.are_marked.result c.args.seat.now c.loop-set.seat
          c.are_marked.new.seat c.loop-set.invariant (omega arith) c.set_count-count.ensures.kept.as_many c.base-base.ensures c.size.ensures
          c.are_marked.ensures.seat c.are_marked.ensures.held w.if-not-are_marked.false)
    ]

pub loop-set-init : goal.loop-set-init
loop-set-init c = rw c.new-lines.ensures.items (found_none c.args.plan.now c.args.seat.now)

pub returns-clause-in_play : goal.returns-clause-in_play
returns-clause-in_play c =
    let all : c.loop-set.set ≡ c.set_count-count.result = omega arith in
    subst (λ upto. AreOpen c.args.plan.now c.loop-set.lines.items upto c.loop-set.seat.holds) all c.loop-set.invariant.sets
