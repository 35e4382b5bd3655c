use Rattle.std.proofs.Common.{◌/◌, get_or, set, ◌∙◌, refl, sym, ap, subst}
use Rattle.std.proofs.lemmas.List.{set-get_or}
use Rattle.atomic_table.specs.Table.{keeps}
use Rattle.bit_table.specs.Words.{mark_at}
use Rattle.shared_marks.specs.Facts.{IsKept}
use Rattle.shared_marks.specs.Seats.{testing}
use Rattle.shared_marks.specs.Steps.{IsTest, has_bit}
use Rattle.shared_marks.proofs.CallerLemmas.{own_count, own_table, test_step_seen, word_there}
use Rattle.shared_marks.proofs.StepLemmas.{test_keeps, test_step, test_tells}
use Rattle.shared_marks.proofs.table.SharedMarks.look.Goals as goal

pub load-word-requires : goal.load-word-requires
load-word-requires g c =
    let seat = c.seat.inside.seat in
    let table = c.self.inside.table.shared in
    let facts = c.self.invariant in
    let there = word_there c.args.place c.self.inside.size table.table_id.words table.key table.table_id c.args.self.now c.self.view_is c.requires.place
    facts.0 facts.2 in (
      own_table seat.table_id table.table_id seat.me.0 c.self.inside.size c.args.seat.now c.args.self.now c.seat.view_is c.self.view_is c.requires.table,
      there.0,
      λ s kept homes here small.
          let after = testing c.args.place (mark_at s.words c.args.place) seat.me.0 in (
            after,
            keeps,
            tt,
            subst (λ words. IsKept table.key words (set s.views seat.id after)) (sym (set-get_or s.words (c.args.place / 64) 0))
                (test_keeps table.key c.args.place seat.id s.words s.views seat.me.0 kept here c.seat.invariant.1),
            (
              subst (λ place. IsTest place (get_or s.words (c.args.place / 64) 0) seat.me.0 after) (sym c.requires.step)
                  (test_tells table.key c.args.place seat.id s.words s.views seat.me.0 kept here),
              refl,
              test_step table.key c.args.place seat.id s.words s.views seat.me.0 kept here c.seat.invariant.1 _ _
                  (own_count _ c.self.inside.size table.key table.table_id c.args.self.now c.self.view_is c.requires.count facts.0) c.requires.step,
            ),
          ),
    )

pub returns-clause-step : goal.returns-clause-step
returns-clause-step g c =
    test_step_seen c.seat.view_is (ap (has_bit c.load-word.result) c.requires.step ∙ sym c.is_set.ensures) c.load-word.ensures.2.2
