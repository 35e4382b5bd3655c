use Rattle.std.proofs.Common.{◌≡◌, length, subst, arith}
use Rattle.definitions.specs.SliceRows.{IsOfSlice}
use Rattle.full_search.specs.Questions.{QuestionsView}
use Rattle.row_completer.proofs.CellLemmas.{of_slice}
use Rattle.row_completer.proofs.slice_questions.SliceQuestions.is_of_slice.Goals as goal

pub returns : goal.returns
returns c =
    let questions = c.self.inside.questions in
    let lists = c.self.inside.values in
    let cells = c.args.cells.now in
    let long : length cells ≡ length lists = omega (arith, c.if-len.false, c.len.ensures, c.len-2.ensures) in
    λ _. subst (λ (seen : QuestionsView). IsOfSlice seen.model seen.slice cells) c.self.view_is
    (of_slice questions.model questions.slice lists cells c.self.invariant long (λ p within.
    c.loop-p.invariant p (omega (arith, within, c.loop-p-test.false, c.len-p-end.ensures))))
