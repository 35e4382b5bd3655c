use Rattle.std.proofs.Common.{◌<◌, [], ◌∷◌, length, arith, subst}
use Rattle.shared_marks.specs.Adding.{Marks}
use Rattle.shared_marks.specs.Served.{is_served_at}
use Rattle.suite_shrink.proofs.ServedLemmas.{marked_more}
use Rattle.suite_shrink.proofs.served.mark_rows.Goals as goal

pub loop-i-preserved : goal.loop-i-preserved
loop-i-preserved c =
    let m = c.args.model.now in
    let within : c.loop-i.i < length c.args.rows.now = omega (arith, c.loop-i-test.true, c.loop-i.auto.i-end, c.len-i-end.ensures) in
    marked_more m c.args.rows.now c.loop-i.i c.args.seat.now c.loop-i.seat c.mark_row.new.seat within c.loop-i.invariant
    (subst (λ row. Marks (is_served_at m (row ∷ [])) c.loop-i.seat c.mark_row.new.seat) c.row.ensures c.in_ok-mark_row.ensures)
