use Rattle.std.proofs.Common.{◌≡◌, sym, subst}
use Rattle.definitions.specs.believed.Completion.{is_extendable}
use Rattle.definitions.specs.believed.Search.{plain_cost}
use Rattle.feasibility.specs.Answers.{answer_of}
use Rattle.definitions.specs.SliceRows.{IsOfSlice}
use Rattle.feasibility.specs.Solving.{SolverView}
use Rattle.feasibility.proofs.Extendable.{solver_lists, solver_asks}
use Rattle.feasibility.proofs.solver.Solver.ask.Goals as goal

pub returns-clause-answer : goal.returns-clause-answer
returns-clause-answer c =
    subst (λ (s : SolverView). c.ask_and_keep.result ≡ answer_of (is_extendable s.model s.slice c.args.cells.now)
    (plain_cost s.model s.prefs s.slice c.args.cells.now) c.args.budget) c.self.view_is
    (solver_asks (record { model = c.self.inside.tree.model; prefs = c.self.inside.prefs.now; slice = c.self.inside.slice }) c.self.inside.tree.values
    c.self.inside.room c.self.inside.fails c.self.inside.sets c.args.cells.now c.args.budget c.ask_and_keep.result c.self.invariant.0 c.ask_and_keep.ensures.sound
    (subst (λ (s : SolverView). IsOfSlice s.model s.slice c.args.cells.now) (sym c.self.view_is) c.requires) c.ask_and_keep.ensures.answer)

pub ask_and_keep-requires-clause-listed : goal.ask_and_keep-requires-clause-listed
ask_and_keep-requires-clause-listed c =
    solver_lists (record { model = c.self.inside.tree.model; prefs = c.self.inside.prefs.now; slice = c.self.inside.slice }) c.self.inside.tree.values
    c.self.inside.room c.self.inside.fails c.self.inside.sets
    c.args.cells.now c.self.invariant.0 (subst (λ (s : SolverView). IsOfSlice s.model s.slice c.args.cells.now) (sym c.self.view_is) c.requires)
