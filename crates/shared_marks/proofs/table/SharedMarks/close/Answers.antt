use Rattle.std.proofs.Common.{◌∙◌, sym, ap, subst}
use Rattle.shared_marks.specs.Seats.{SeatView, TableView}
use Rattle.shared_marks.proofs.CloseLemmas.{Closes, closes}
use Rattle.shared_marks.proofs.table.SharedMarks.close.Goals as goal

done : (c : goal.After-free) → Closes c.words_of-words.result.items c.self.inside.size c.args.self.bits c.args.seat.holds
done c =
    let seat = c.seat.inside.seat in
    let last = c.close_with-closed.ensures.values.2 in
    subst (Closes c.words_of-words.result.items c.self.inside.size c.args.self.bits) (ap (λ (s : SeatView). s.holds) c.seat.view_is)
    (closes c.self.inside.table.shared.key seat.id c.self.inside.size c.args.self.bits c.words_of-words.result.items last.0.words last.0.views seat.me.0
    last.1.0 last.1.1 (last.2 ∙ sym c.words_of-words.ensures) (ap (λ (t : TableView). t.bits) c.self.view_is))

pub returns-clause-size : goal.returns-clause-size
returns-clause-size c = (done c).size_is

pub returns-clause-held : goal.returns-clause-held
returns-clause-held c = (done c).held_are

pub returns-clause-whole : goal.returns-clause-whole
returns-clause-whole c = (done c).whole_is
