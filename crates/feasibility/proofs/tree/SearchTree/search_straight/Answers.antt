use Rattle.std.proofs.Common.{◌≡◌, ◌∙◌, true, sym, ap}
use Rattle.std.proofs.lemmas.Bool.{not-false}
use Rattle.definitions.specs.believed.Search.{constrained_params, is_failing}
use Rattle.feasibility.specs.Path.{reached}
use Rattle.feasibility.proofs.Visits.{told_fails}
use Rattle.feasibility.proofs.tree.SearchTree.search_straight.Goals as goal

pub returns-then-not-start-clause-told : goal.returns-then-not-start-clause-told
returns-then-not-start-clause-told c =
    let m = c.args.self.now.model in
    let lists = c.args.self.now.values in
    let fails : is_failing m lists c.args.cells.now ≡ true =
    ap (is_failing m lists) (sym c.requires.same) ∙ not-false (is_failing m lists c.args.room.now) (sym c.start.ensures.fails ∙ c.if-not-start.true) in
    told_fails m lists (constrained_params m) c.args.cells.now (reached m lists (constrained_params m) c.args.cells.now)
    c.args.cells.now c.start.new.cells c.args.left.now c.visit_nodes.new.left c.visit_nodes.result fails c.visit_nodes.ensures.answer
    c.visit_nodes.ensures.left (c.start.ensures.same ∙ c.requires.same)
