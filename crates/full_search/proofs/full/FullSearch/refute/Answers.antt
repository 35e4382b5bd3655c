use Rattle.std.proofs.Common.{◌≡◌, ℕ, true, ◌∙◌, List, [], ◌∷◌, Option, length, map, sym, subst, arith}
use Rattle.std.proofs.lemmas.List.{length-map}
use Rattle.cov_model.specs.Fits.{FitsModel}
use Rattle.cov_model.specs.believed.Slices.{slice_of}
use Rattle.definitions.specs.believed.Covering.{IsUnserved}
use Rattle.cov_model.specs.believed.Tuples.{cells_of}
use Rattle.definitions.specs.believed.Refutation.{is_eager}
use Rattle.definitions.specs.SliceRows.{IsOfSlice}
use Rattle.refutation.specs.believed.Proofs.{format_of}
use Rattle.refutation.specs.Proofs.{meant}
use Rattle.refutation.specs.declared.omissions.Omission.{Omission}
use Rattle.refutation.specs.declared.token.TreeToken.{TreeToken}
use Rattle.feasibility.specs.Refuting.{Closes, IsPath, RefuterView, earlier_tuples}
use Rattle.feasibility.specs.Solving.{IsSolver, SolverView}
use Rattle.feasibility.specs.Tree.{IsListed}
use Rattle.feasibility.proofs.AddedTrees.{closes_tuple}
use Rattle.feasibility.proofs.Extendable.{solver_lists}
use Rattle.feasibility.proofs.Paths.{solver_refutes, tuple_path}
use Rattle.feasibility.proofs.SolverTrees.{solver_unfound}
use Rattle.full_search.specs.Closing.{tree_of}
use Rattle.full_search.specs.Reasons.{HasNoRow}
use Rattle.full_search.proofs.Rows.{unfound_none}
use Rattle.full_search.proofs.full.FullSearch.refute.Goals as goal

pub new-refuter-requires : goal.new-refuter-requires
new-refuter-requires c =
    let s : SolverView = record { model = c.self.inside.tree.model; prefs = c.self.inside.prefs.now; slice = c.self.inside.slice } in
    let tuple = cells_of (length s.model.params) c.args.tuple.now in
    let is : IsSolver s c.self.inside.tree.values c.self.inside.room c.self.inside.fails c.self.inside.sets =
    record { slice = c.self.invariant.slice; orders = c.self.invariant.orders; tried = c.self.invariant.tried; room = c.self.invariant.room; ready = c.self.invariant.ready } in
    solver_refutes s c.self.inside.tree.values c.self.inside.room c.self.inside.fails c.self.inside.sets (format_of c.args.earlier.now.form)
    (earlier_tuples s.model c.args.earlier.now) tuple is
    (subst (λ (view : SolverView). IsOfSlice view.model view.slice (cells_of (length view.model.params) c.args.tuple.now)) (sym c.self.view_is) c.requires.of)
    (subst (λ (view : SolverView). slice_of view.model (cells_of (length view.model.params) c.args.tuple.now) ≡ view.slice) (sym c.self.view_is) c.requires.slice)
    (omega (
      arith,
      c.requires.few,
      length-map c.args.earlier.now.omissions (λ (omission : Omission). cells_of (length s.model.params) omission.tuple),
    ))

pub close_tuple-requires-clause-path : goal.close_tuple-requires-clause-path
close_tuple-requires-clause-path c =
    let of = subst (λ (view : SolverView). IsOfSlice view.model view.slice (cells_of (length view.model.params) c.args.tuple.now)) (sym c.self.view_is) c.requires.of in
    subst (IsPath c.new-refuter.result) (sym c.begin.ensures)
    (tuple_path c.new-refuter.result (subst (λ (r : RefuterView). FitsModel r.model r.tuple) (sym c.new-refuter.ensures) of.fits))

pub close_tuple-requires-clause-listed : goal.close_tuple-requires-clause-listed
close_tuple-requires-clause-listed c =
    let s : SolverView = record { model = c.self.inside.tree.model; prefs = c.self.inside.prefs.now; slice = c.self.inside.slice } in
    let tuple = cells_of (length s.model.params) c.args.tuple.now in
    let is : IsSolver s c.self.inside.tree.values c.self.inside.room c.self.inside.fails c.self.inside.sets =
    record { slice = c.self.invariant.slice; orders = c.self.invariant.orders; tried = c.self.invariant.tried; room = c.self.invariant.room; ready = c.self.invariant.ready } in
    subst (IsListed c.new-refuter.result.lists) (sym c.begin.ensures)
    (subst (λ (r : RefuterView). IsListed r.lists r.tuple) (sym c.new-refuter.ensures)
    (solver_lists s c.self.inside.tree.values c.self.inside.room c.self.inside.fails c.self.inside.sets tuple is
    (subst (λ (view : SolverView). IsOfSlice view.model view.slice (cells_of (length view.model.params) c.args.tuple.now)) (sym c.self.view_is) c.requires.of)))

pub close_tuple-requires-clause-none : goal.close_tuple-requires-clause-none
close_tuple-requires-clause-none c =
    let s : SolverView = record { model = c.self.inside.tree.model; prefs = c.self.inside.prefs.now; slice = c.self.inside.slice } in
    let tuple = cells_of (length s.model.params) c.args.tuple.now in
    let is : IsSolver s c.self.inside.tree.values c.self.inside.room c.self.inside.fails c.self.inside.sets =
    record { slice = c.self.invariant.slice; orders = c.self.invariant.orders; tried = c.self.invariant.tried; room = c.self.invariant.room; ready = c.self.invariant.ready } in
    let of = subst (λ (view : SolverView). IsOfSlice view.model view.slice (cells_of (length view.model.params) c.args.tuple.now)) (sym c.self.view_is) c.requires.of in
    subst (HasNoRow (tree_of c.new-refuter.result)) (sym c.begin.ensures)
    (subst (λ (r : RefuterView). HasNoRow (tree_of r) r.tuple) (sym c.new-refuter.ensures)
    (unfound_none c.self.inside.tree tuple c.assert_invariant.ensures.sound c.assert_invariant.ensures.values
    (solver_lists s c.self.inside.tree.values c.self.inside.room c.self.inside.fails c.self.inside.sets tuple is of)
    (solver_unfound s c.self.inside.tree.values c.self.inside.room c.self.inside.fails c.self.inside.sets tuple is c.assert_invariant.ensures.sound of
    (subst (λ (view : SolverView). slice_of view.model (cells_of (length view.model.params) c.args.tuple.now) ≡ view.slice) (sym c.self.view_is) c.requires.slice)
    (subst (λ (view : SolverView). IsUnserved view.model (cells_of (length view.model.params) c.args.tuple.now)) (sym c.self.view_is) c.requires.unserved))))

pub returns-clause-eager : goal.returns-clause-eager
returns-clause-eager c =
    let most = length c.close_tuple.new.tokens.items in
    let closes = subst (λ (cells : List (Option ℕ)). Closes c.new-refuter.result (cells ∷ []) most [] c.close_tuple.new.tokens.items) c.begin.ensures
    (subst (λ (old : List TreeToken). Closes c.new-refuter.result (c.begin.new.cells ∷ []) most old c.close_tuple.new.tokens.items) c.clear.ensures.items
    c.in_ok-close_tuple.ensures.closes) in
    let eager = subst (λ (r : RefuterView). is_eager r.model r.format r.earlier r.tuple (map meant c.close_tuple.new.tokens.items) ≡ true) c.new-refuter.ensures
    (closes_tuple c.new-refuter.result most c.close_tuple.new.tokens.items closes) in
    subst (λ (view : SolverView). is_eager view.model (format_of c.args.earlier.now.form) (earlier_tuples view.model c.args.earlier.now)
    (cells_of (length view.model.params) c.args.tuple.now) (map meant c.in_ok-into.field-0) ≡ true) c.self.view_is
    (subst (λ (tokens : List TreeToken). is_eager c.self.inside.tree.model (format_of c.args.earlier.now.form)
    (earlier_tuples c.self.inside.tree.model c.args.earlier.now) (cells_of (length c.self.inside.tree.model.params) c.args.tuple.now) (map meant tokens) ≡ true)
    (sym (c.in_ok-into.ensures ∙ c.as_slice.ensures.value)) eager)
