use Rattle.std.proofs.Common.{refl}
use Rattle.atomic_table.specs.Table.{keeps}
use Rattle.shared_marks.specs.Steps.{marking_all, places_of}
use Rattle.shared_marks.proofs.CallerLemmas.{own_table, own_word}
use Rattle.shared_marks.proofs.StepLemmas.{word_keeps}
use Rattle.shared_marks.proofs.table.SharedMarks.mark_word.Goals as goal

pub fetch_or-requires : goal.fetch_or-requires
fetch_or-requires c =
    let seat = c.seat.inside.seat in
    let table = c.self.inside.table.shared in
    let facts = c.self.invariant in
    let there = own_word c.args.word c.self.inside.size table.table_id.words table.key table.table_id c.args.self.now c.self.view_is c.requires.word facts.0 facts.2 in (
      own_table seat.table_id table.table_id seat.me.0 c.self.inside.size c.args.seat.now c.args.self.now c.seat.view_is c.self.view_is c.requires.table,
      there.0,
      λ s kept homes here small. (
        marking_all (places_of c.args.word c.args.bits) seat.me.0,
        keeps,
        tt,
        word_keeps table.key c.args.word c.args.bits seat.id s.words s.views seat.me.0 kept here c.seat.invariant.1 there.1,
        refl,
      ),
    )
