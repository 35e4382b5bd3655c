use Rattle.std.proofs.Common.{◌∙◌, refl, sym, ap, subst, arith}
use Rattle.definitions.specs.believed.Search.{Outcome, constrained_params}
use Rattle.feasibility.specs.Answers.{answer_of}
use Rattle.feasibility.specs.Path.{reached}
use Rattle.feasibility.specs.Recurring.{AreAnswered, IsAnswered}
use Rattle.feasibility.proofs.Deciding.{fails_stays}
use Rattle.feasibility.proofs.Recurring.{answer_kept, answered_at, answered_tells}
use Rattle.feasibility.proofs.Visits.{told_fails}
use Rattle.feasibility.proofs.tree.SearchTree.ask_and_keep.Goals as goal

pub returns-then-fails-clause-answer : goal.returns-then-fails-clause-answer
returns-then-fails-clause-answer c =
    let fails = fails_stays c.args.self.now.model c.args.self.now.values c.args.cells.now c.requires.fits.as_long c.requires.listed
    (sym c.requires.ready.fails ∙ c.if-fails.true) in
    (told_fails c.args.self.now.model c.args.self.now.values (constrained_params c.args.self.now.model) c.args.cells.now c.args.cells.now c.args.cells.now
    c.args.cells.now c.args.budget c.visit_nodes.new.left c.visit_nodes.result
    fails c.visit_nodes.ensures.answer c.visit_nodes.ensures.left refl).answer

pub returns-then-is_same_question-clause-answer : goal.returns-then-is_same_question-clause-answer
returns-then-is_same_question-clause-answer c =
    let m = c.args.self.now.model in
    let lists = c.args.self.now.values in
    let known = subst (IsAnswered m lists) (sym c.at-answered.ensures)
    (answered_at m lists c.args.table.now c.place_of-place.result c.requires.kept (omega (arith, c.place_of-place.ensures, c.len.ensures.length))) in
    let tells = answered_tells m lists c.args.cells.now c.at-answered.result.now c.assert_invariant.ensures.values
    (sym c.requires.ready.fails ∙ c.if-fails.false) known (c.is_same_question.ensures.known c.if-is_same_question.true) (c.is_same_question.ensures.agree c.if-is_same_question.true) in
    c.answer.ensures ∙ sym (ap (λ (outcome : Outcome). answer_of outcome.found outcome.cost c.args.budget) tells)

pub is_same_question-requires-clause-also : goal.is_same_question-requires-clause-also
is_same_question-requires-clause-also c =
    let m = c.args.self.now.model in
    let lists = c.args.self.now.values in
    (subst (IsAnswered m lists) (sym c.at-answered.ensures)
    (answered_at m lists c.args.table.now c.place_of-place.result c.requires.kept (omega (arith, c.place_of-place.ensures, c.len.ensures.length)))).long

pub keep_answer-requires-clause-long : goal.keep_answer-requires-clause-long
keep_answer-requires-clause-long c =
    (answered_at c.args.self.now.model c.args.self.now.values c.args.table.now c.place_of-place.result c.requires.kept
    (omega (arith, c.place_of-place.ensures, c.len.ensures.length))).long ∙ sym c.requires.fits.as_long

pub returns-clause-answer : goal.returns-clause-answer
returns-clause-answer c = c.search_straight-answer.ensures.told.answer

pub returns-clause-kept : goal.returns-clause-kept
returns-clause-kept c =
    let m = c.args.self.now.model in
    let lists = c.args.self.now.values in
    subst (AreAnswered m lists) (sym c.keep_answer.ensures)
    (answer_kept m lists c.args.table.now c.place_of-place.result c.args.cells.now (reached m lists (constrained_params m) c.args.cells.now) c.args.cells.now
    c.search_straight-answer.new.room c.args.budget c.search_straight-answer.new.left c.search_straight-answer.result c.requires.kept
    c.requires.fits.as_long c.search_straight-answer.ensures.told)
