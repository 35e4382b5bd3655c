use Rattle.std.proofs.Common.{◌≡◌, ◌∙◌, length, sym, ap, subst, arith}
use Rattle.std.proofs.lemmas.List.{length-map}
use Rattle.cov_model.specs.believed.Slices.{slice_of}
use Rattle.definitions.specs.believed.Covering.{IsUnserved}
use Rattle.cov_model.specs.believed.Tuples.{cells_of}
use Rattle.definitions.specs.believed.Search.{constrained_params, visit}
use Rattle.definitions.specs.SliceRows.{IsOfSlice}
use Rattle.refutation.specs.believed.Proofs.{format_of}
use Rattle.refutation.specs.declared.omissions.Omission.{Omission}
use Rattle.feasibility.specs.KeptTrees.{IsKeptTree}
use Rattle.feasibility.specs.Recurring.{AreAnswered}
use Rattle.feasibility.specs.Refuting.{RefuterView, earlier_tuples}
use Rattle.feasibility.specs.Solving.{IsReady, SolverView}
use Rattle.feasibility.specs.Tree.{IsListed}
use Rattle.feasibility.proofs.Extendable.{solver_lists}
use Rattle.feasibility.proofs.Paths.{solver_refutes}
use Rattle.feasibility.proofs.SolverTrees.{solver_unfound}
use Rattle.feasibility.proofs.solver.Solver.refute.Goals as goal

pub new-refuter-requires : goal.new-refuter-requires
new-refuter-requires c =
    let solver : SolverView = record { model = c.self.inside.tree.model; prefs = c.self.inside.prefs.now; slice = c.self.inside.slice } in
    let tuple = cells_of (length solver.model.params) c.args.tuple.now in
    solver_refutes solver c.self.inside.tree.values c.self.inside.room c.self.inside.fails c.self.inside.sets (format_of c.args.earlier.now.form)
    (earlier_tuples solver.model c.args.earlier.now) tuple c.self.invariant.0
    (subst (λ (s : SolverView). IsOfSlice s.model s.slice (cells_of (length s.model.params) c.args.tuple.now)) (sym c.self.view_is) c.requires.of)
    (subst (λ (s : SolverView). slice_of s.model (cells_of (length s.model.params) c.args.tuple.now) ≡ s.slice) (sym c.self.view_is) c.requires.slice)
    (omega (
      arith,
      c.requires.few,
      length-map c.args.earlier.now.omissions (λ (omission : Omission). cells_of (length solver.model.params) omission.tuple),
    ))

pub tree_of-requires-clause-listed : goal.tree_of-requires-clause-listed
tree_of-requires-clause-listed c =
    let solver : SolverView = record { model = c.self.inside.tree.model; prefs = c.self.inside.prefs.now; slice = c.self.inside.slice } in
    subst (λ (r : RefuterView). IsListed r.lists r.tuple) (sym c.new-refuter.ensures)
    (solver_lists solver c.self.inside.tree.values c.self.inside.room c.self.inside.fails c.self.inside.sets
    (cells_of (length solver.model.params) c.args.tuple.now) c.self.invariant.0
    (subst (λ (s : SolverView). IsOfSlice s.model s.slice (cells_of (length s.model.params) c.args.tuple.now)) (sym c.self.view_is) c.requires.of))

pub tree_of-requires-clause-unfound : goal.tree_of-requires-clause-unfound
tree_of-requires-clause-unfound c =
    let solver : SolverView = record { model = c.self.inside.tree.model; prefs = c.self.inside.prefs.now; slice = c.self.inside.slice } in
    ap (λ (r : RefuterView). (visit r.model r.lists (constrained_params r.model) r.tuple).found) c.new-refuter.ensures
    ∙ solver_unfound solver c.self.inside.tree.values c.self.inside.room c.self.inside.fails c.self.inside.sets
    (cells_of (length solver.model.params) c.args.tuple.now) c.self.invariant.0 c.assert_invariant.ensures.sound
    (subst (λ (s : SolverView). IsOfSlice s.model s.slice (cells_of (length s.model.params) c.args.tuple.now)) (sym c.self.view_is) c.requires.of)
    (subst (λ (s : SolverView). slice_of s.model (cells_of (length s.model.params) c.args.tuple.now) ≡ s.slice) (sym c.self.view_is) c.requires.slice)
    (subst (λ (s : SolverView). IsUnserved s.model (cells_of (length s.model.params) c.args.tuple.now)) (sym c.self.view_is) c.requires.unserved)

pub tree_of-requires-clause-long : goal.tree_of-requires-clause-long
tree_of-requires-clause-long c = c.self.invariant.0.room ∙ ap (λ (r : RefuterView). length r.model.params) (sym c.new-refuter.ensures)

pub tree_of-requires-clause-ready : goal.tree_of-requires-clause-ready
tree_of-requires-clause-ready c =
    subst (λ (r : RefuterView). IsReady r.model r.lists c.self.inside.fails c.self.inside.sets) (sym c.new-refuter.ensures) c.self.invariant.0.ready

pub tree_of-requires-clause-answered : goal.tree_of-requires-clause-answered
tree_of-requires-clause-answered c =
    subst (λ (r : RefuterView). AreAnswered r.model r.lists c.self.inside.answered) (sym c.new-refuter.ensures) c.self.invariant.1

pub tree_of-requires-clause-kept : goal.tree_of-requires-clause-kept
tree_of-requires-clause-kept c =
    subst (λ (r : RefuterView). IsKeptTree r.model r.lists c.self.inside.kept) (sym c.new-refuter.ensures) c.self.invariant.2
