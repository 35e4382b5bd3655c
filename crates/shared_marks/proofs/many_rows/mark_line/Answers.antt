use Rattle.std.proofs.Common.{◌∙◌, sym, arith}
use Rattle.shared_marks.proofs.AddingLemmas.{marks_same}
use Rattle.shared_marks.proofs.LineLemmas.{line_serves, line_size, line_within, ranks_within}
use Rattle.shared_marks.proofs.many_rows.mark_line.Goals as goal

pub mark_ranks-requires-clause-within : goal.mark_ranks-requires-clause-within
mark_ranks-requires-clause-within c =
    omega (arith, line_within c.args.model.now c.args.plan.now c.args.line c.size.result c.requires.plan c.requires.line c.size.ensures, c.requires.bits)

pub mark_ranks-requires-clause-ranks : goal.mark_ranks-requires-clause-ranks
mark_ranks-requires-clause-ranks c =
    ranks_within c.args.model.now c.args.line.set c.size.result c.args.columns.now.tests c.put_ranks.new.ranks
    (line_size c.args.model.now c.args.plan.now c.args.line c.size.result c.requires.plan c.requires.line c.size.ensures) c.in_ok-put_ranks.ensures.ranks

pub returns-clause-marks : goal.returns-clause-marks
returns-clause-marks c =
    marks_same _ _ _ _ c.mark_ranks.ensures
    (line_serves c.args.model.now c.args.plan.now c.args.columns.now.tests c.args.line c.put_ranks.new.ranks c.requires.plan c.requires.columns.plain c.requires.line
    c.in_ok-put_ranks.ensures.ranks)

pub returns-clause-room : goal.returns-clause-room
returns-clause-room c = c.in_ok-put_ranks.ensures.ranks.long ∙ sym c.requires.room
