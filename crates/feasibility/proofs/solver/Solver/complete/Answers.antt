use Rattle.std.proofs.Common.{ap, arith, length, ◌≡◌, ◌∙◌, sym, subst, Some}
use Rattle.definitions.specs.believed.Completion.{is_extendable, first_completion}
use Rattle.definitions.specs.believed.Search.{plain_cost}
use Rattle.feasibility.specs.Answers.{answer_of}
use Rattle.feasibility.specs.Path.{filled}
use Rattle.definitions.specs.SliceRows.{IsOfSlice}
use Rattle.feasibility.specs.Solving.{SolverView}
use Rattle.feasibility.specs.declared.answer.Answer.TheVariants.{Yes, No, Spent}
use Rattle.feasibility.proofs.Nodes.{length-filled}
use Rattle.feasibility.proofs.Extendable.{solver_lists, solver_asks, solver_completes}
use Rattle.feasibility.proofs.solver.Solver.complete.Goals as goal
use Rattle.feasibility.proofs.solver.Solver.complete.Goals.{in-Yes, in-No, in-Spent}

pub returns-clause-answer : goal.returns-clause-answer
returns-clause-answer c =
    let same : c.match-search.result ≡ c.search.result =
    elim c.match-search.branch [
      | in-Yes w ↦ w.result-is ∙ sym w.in-Yes.is
      | in-No w ↦ w.result-is ∙ sym w.in-No.is
      | in-Spent w ↦ w.result-is
          ∙ sym w.in-Spent.is
    ] in
    same ∙ subst (λ (s : SolverView). c.search.result ≡ answer_of (is_extendable s.model s.slice c.args.cells.now)
    (plain_cost s.model s.prefs s.slice c.args.cells.now) c.args.budget) c.self.view_is
    (solver_asks (record { model = c.self.inside.tree.model; prefs = c.self.inside.prefs.now; slice = c.self.inside.slice }) c.self.inside.tree.values
    c.self.inside.room c.self.inside.fails c.self.inside.sets c.args.cells.now c.args.budget c.search.result c.self.invariant.0 c.search.ensures.sound
    (subst (λ (s : SolverView). IsOfSlice s.model s.slice c.args.cells.now) (sym c.self.view_is) c.requires.of) c.search.ensures.answer)

no_yes : No ≡ Yes → ⊥
no_yes e = cc

spent_yes : Spent ≡ Yes → ⊥
spent_yes e = cc

pub returns-clause-completed : goal.returns-clause-completed
returns-clause-completed c answers =
    subst (λ (s : SolverView). Some c.match-search.into ≡ first_completion s.model s.prefs s.slice c.args.cells.now) c.self.view_is
    (elim c.match-search.branch [
      | in-Yes w ↦
          solver_completes (record { model = c.self.inside.tree.model; prefs = c.self.inside.prefs.now; slice = c.self.inside.slice })
          c.self.inside.tree.values c.self.inside.room c.self.inside.fails c.self.inside.sets c.args.cells.now c.match-search.into c.args.budget
          c.search.result c.self.invariant.0 c.search.ensures.sound
          (subst (λ (s : SolverView). IsOfSlice s.model s.slice c.args.cells.now) (sym c.self.view_is) c.requires.of) c.search.ensures.answer w.in-Yes.is
          (w.into-is ∙ w.fill.ensures ∙ ap (filled c.self.inside.tree.values) (w.copy_from.ensures ∙ c.search.ensures.yes w.in-Yes.is))
      | in-No w ↦ absurd (no_yes (sym w.result-is ∙ answers))
      | in-Spent w ↦ absurd (spent_yes (sym w.result-is ∙ answers))
    ])

pub search-requires-clause-listed : goal.search-requires-clause-listed
search-requires-clause-listed c =
    solver_lists (record { model = c.self.inside.tree.model; prefs = c.self.inside.prefs.now; slice = c.self.inside.slice }) c.self.inside.tree.values
    c.self.inside.room c.self.inside.fails c.self.inside.sets
    c.args.cells.now c.self.invariant.0 (subst (λ (s : SolverView). IsOfSlice s.model s.slice c.args.cells.now) (sym c.self.view_is) c.requires.of)

pub returns-clause-long : goal.returns-clause-long
returns-clause-long c =
    elim c.match-search.branch [
      | in-Yes w ↦
          let filled = ap length (w.into-is ∙ w.fill.ensures) ∙ length-filled c.self.inside.tree.values w.copy_from.new.self
          ∙ ap length w.copy_from.ensures in
          omega (arith, filled, c.search.ensures.long, c.self.invariant.0.room, c.requires.long, ap (λ (s : SolverView). length s.model.params) c.self.view_is)
      | in-No w ↦ ap length w.into-is
      | in-Spent w ↦ ap length w.into-is
    ]
