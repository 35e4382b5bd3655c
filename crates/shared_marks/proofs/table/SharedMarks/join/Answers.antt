use Rattle.std.proofs.Common.{arith}
use Rattle.shared_marks.proofs.CallerLemmas.{own_table}
use Rattle.shared_marks.proofs.StepLemmas.{join_keeps, joined_share}
use Rattle.shared_marks.proofs.table.SharedMarks.join.Goals as goal

pub join_seat-requires : goal.join_seat-requires
join_seat-requires c =
    let seat = c.seat.inside.seat in
    let other = c.other.inside.seat in
    let table = c.self.inside.table.shared in (
      own_table seat.table_id table.table_id seat.me.0 c.self.inside.size c.args.seat.now c.args.self.now c.seat.view_is c.self.view_is c.requires.seat,
      own_table other.table_id table.table_id other.me.0 c.self.inside.size c.args.other c.args.self.now c.other.view_is c.self.view_is c.requires.other,
      c.other.invariant.0,
      omega (arith, c.self.invariant.0, c.self.invariant.2),
      λ s kept here apart there.
          join_keeps table.key seat.id other.id s.words s.views seat.me.0 other.me.0 kept here apart there
          (joined_share seat.me.0 other.me.0 c.seat.invariant.1),
    )
