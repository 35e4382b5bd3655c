use Rattle.std.proofs.Common.{◌∙◌, refl, sym, ap, subst, arith}
use Rattle.definitions.specs.believed.Search.{Outcome, constrained_params}
use Rattle.feasibility.specs.Answers.{answer_of}
use Rattle.feasibility.specs.Recurring.{IsAnswered}
use Rattle.feasibility.proofs.Deciding.{fails_stays}
use Rattle.feasibility.proofs.Recurring.{answered_at, answered_tells}
use Rattle.feasibility.proofs.Visits.{told_fails}
use Rattle.feasibility.proofs.tree.SearchTree.search_from.Goals as goal

pub returns-then-fails-clause-answer : goal.returns-then-fails-clause-answer
returns-then-fails-clause-answer c =
    let fails = fails_stays c.args.self.now.model c.args.self.now.values c.args.room.now c.requires.fits.as_long c.requires.listed
    (sym c.requires.ready.fails ∙ c.if-fails.true) in
    (told_fails c.args.self.now.model c.args.self.now.values (constrained_params c.args.self.now.model) c.args.room.now c.args.room.now c.args.room.now
    c.args.room.now c.args.budget c.visit_nodes.new.left c.visit_nodes.result
    fails c.visit_nodes.ensures.answer c.visit_nodes.ensures.left refl).answer

pub returns-then-is_same_question-clause-answer : goal.returns-then-is_same_question-clause-answer
returns-then-is_same_question-clause-answer c =
    let m = c.args.self.now.model in
    let lists = c.args.self.now.values in
    let known = subst (IsAnswered m lists) (sym c.at-answered.ensures)
    (answered_at m lists c.args.table.now c.place_of-place.result c.requires.kept (omega (arith, c.place_of-place.ensures, c.len.ensures.length))) in
    let tells = answered_tells m lists c.args.room.now c.at-answered.result.now c.assert_invariant.ensures.values
    (sym c.requires.ready.fails ∙ c.if-fails.false) known (c.is_same_question.ensures.known c.if-is_same_question.true) (c.is_same_question.ensures.agree c.if-is_same_question.true) in
    c.answer.ensures ∙ sym (ap (λ (outcome : Outcome). answer_of outcome.found outcome.cost c.args.budget) tells)
