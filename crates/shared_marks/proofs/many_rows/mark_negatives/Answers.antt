use Rattle.shared_marks.proofs.AddingLemmas.{marks_none}
use Rattle.shared_marks.proofs.SignLemmas.{none_by_negative}
use Rattle.shared_marks.proofs.many_rows.mark_negatives.Goals as goal

pub returns-then-has_no_negative : goal.returns-then-has_no_negative
returns-then-has_no_negative c =
    marks_none _ c.args.seat.now (none_by_negative c.args.model.now c.args.rows.now (c.has_no_negative.ensures c.if-has_no_negative.true) c.requires.fits)
