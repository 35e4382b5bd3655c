use Rattle.shared_marks.proofs.OpenLemmas.{look_more}
use Rattle.shared_marks.proofs.table.SharedMarks.are_marked.Goals as goal

pub returns-then-not-is_marked-clause-seat : goal.returns-then-not-is_marked-clause-seat
returns-then-not-is_marked-clause-seat c =
    (look_more c.args.from c.loop-place.place c.is_marked.result c.args.seat.now c.loop-place.seat c.is_marked.new.seat c.loop-place.invariant
    c.is_marked.ensures.seat).0

pub loop-place-preserved : goal.loop-place-preserved
loop-place-preserved c =
    (look_more c.args.from c.loop-place.place c.is_marked.result c.args.seat.now c.loop-place.seat c.is_marked.new.seat c.loop-place.invariant
    c.is_marked.ensures.seat).1 c.if-not-is_marked.false
