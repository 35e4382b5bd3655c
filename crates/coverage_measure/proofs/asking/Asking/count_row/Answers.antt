use Rattle.std.proofs.Common.{true, false, refl}
use Rattle.coverage_measure.proofs.AskLemmas.{answered_no, answered_yes, row_told}
use Rattle.coverage_measure.proofs.asking.Asking.count_row.Goals as goal

pub returns-in-Yes-clause-count : goal.returns-in-Yes-clause-count
returns-in-Yes-clause-count c =
    row_told c.args.self.now.model.now c.args.self.now.prefs.now c.args.self.now.effort c.args.kept.now c.args.kept.now.questions c.args.cells.now true
    c.assert_invariant.ensures c.requires.orders c.requires.kept c.requires.of refl
    (answered_yes c.args.kept.now.questions c.args.cells.now c.ask.result c.ask.ensures.answer c.in-Yes.is)

pub returns-in-No-clause-count : goal.returns-in-No-clause-count
returns-in-No-clause-count c =
    row_told c.args.self.now.model.now c.args.self.now.prefs.now c.args.self.now.effort c.args.kept.now c.args.kept.now.questions c.args.cells.now false
    c.assert_invariant.ensures c.requires.orders c.requires.kept c.requires.of refl
    (answered_no c.args.kept.now.questions c.args.cells.now c.ask.result c.ask.ensures.answer c.in-No.is)
