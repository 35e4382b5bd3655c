use Rattle.std.proofs.Common.{arith}
use Rattle.shared_marks.proofs.CallerLemmas.{own_table}
use Rattle.shared_marks.proofs.StepLemmas.{split_keeps}
use Rattle.shared_marks.proofs.table.SharedMarks.split.Goals as goal

pub split_seat-requires : goal.split_seat-requires
split_seat-requires c =
    let seat = c.seat.inside.seat in
    let table = c.self.inside.table.shared in (
      own_table seat.table_id table.table_id seat.me.0 c.self.inside.size c.args.seat.now c.args.self.now c.seat.view_is c.self.view_is c.requires,
      omega (arith, c.self.invariant.0, c.self.invariant.2),
      λ s kept here. split_keeps table.key seat.id s.words s.views seat.me.0 kept here c.seat.invariant.1,
    )
