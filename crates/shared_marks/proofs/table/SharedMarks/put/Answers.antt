use Rattle.std.proofs.Common.{sym, ap}
use Rattle.atomic_table.specs.Table.{keeps}
use Rattle.shared_marks.specs.Seats.{marking}
use Rattle.shared_marks.proofs.CallerLemmas.{mark_step_seen, own_count, own_table, word_there}
use Rattle.shared_marks.proofs.StepLemmas.{mark_keeps, mark_step}
use Rattle.shared_marks.proofs.table.SharedMarks.put.Goals as goal

pub fetch_or-requires : goal.fetch_or-requires
fetch_or-requires g c =
    let seat = c.seat.inside.seat in
    let table = c.self.inside.table.shared in
    let facts = c.self.invariant in
    let there = word_there c.args.place c.self.inside.size table.table_id.words table.key table.table_id c.args.self.now c.self.view_is c.requires.place
    facts.0 facts.2 in (
      own_table seat.table_id table.table_id seat.me.0 c.self.inside.size c.args.seat.now c.args.self.now c.seat.view_is c.self.view_is c.requires.table,
      there.0,
      λ s kept homes here small. (
        marking c.args.place seat.me.0,
        keeps,
        tt,
        mark_keeps table.key c.args.place seat.id s.words s.views seat.me.0 kept here c.seat.invariant.1 there.1,
        (
          ap (λ place. (marking place seat.me.0, seat.me.1)) (sym c.requires.step),
          mark_step table.key c.args.place seat.id s.words s.views seat.me.0 kept here c.seat.invariant.1 there.1 _ _
              (own_count _ c.self.inside.size table.key table.table_id c.args.self.now c.self.view_is c.requires.count facts.0) c.requires.step,
        ),
      ),
    )

pub returns-clause-step : goal.returns-clause-step
returns-clause-step g c = mark_step_seen c.seat.view_is c.fetch_or.ensures.2.1
