use Rattle.std.proofs.Common.{◌+◌, arith, subst}
use Rattle.std.specs.Prelude.{slice_range, IfOk}
use Rattle.row_text.specs.RowFiles.{suite_seen}
use Rattle.shared_marks.specs.Adding.{Adds}
use Rattle.shared_marks.specs.Served.{is_served_at}
use Rattle.shared_marks.proofs.WorkerLemmas.{parts_add}
use Rattle.shared_marks.proofs.workers.+fn-mark_range-join+arg2+fn-mark_range-join+arg3+mark_range.Goals as goal

pub returns : goal.returns
returns g t c =
    let m = c.args.model.now in
    let rows = suite_seen c.args.file.now in
    let middle = c.args.from + c.share.result in
    let lower = is_served_at m (slice_range rows c.args.from middle) in
    let upper = is_served_at m (slice_range rows middle c.args.to) in
    let first = subst (λ marked. IfOk marked (Adds lower c.split-other.new.seat)) c.in_ok-seat.was c.join-first.ensures.first in
    let second = subst (λ marked. IfOk marked (Adds upper c.split-other.result)) c.in_ok-other.was c.join-first.ensures.second in
    parts_add m rows c.args.from middle c.args.to c.args.seat c.split-other.new.seat c.split-other.result c.in_ok-seat.seat c.in_ok-other.other c.join.new.seat
    (omega arith) (omega (arith, c.share.ensures, c.requires.ordered)) c.split-other.ensures.seat c.split-other.ensures.other first second c.join.ensures
