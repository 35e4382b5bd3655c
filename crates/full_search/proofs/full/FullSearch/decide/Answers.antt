use Rattle.std.proofs.Common.{◌≡◌, ◌∙◌, ℕ, List, sym, ap, subst}
use Rattle.definitions.specs.believed.Completion.{is_extendable}
use Rattle.definitions.specs.believed.Search.{constrained_params, visit}
use Rattle.definitions.specs.SliceRows.{IsOfSlice}
use Rattle.feasibility.specs.Solving.{SolverView}
use Rattle.feasibility.specs.Tree.{IsListed}
use Rattle.feasibility.proofs.Extendable.{is_listed, plain_search_is_exact}
use Rattle.full_search.proofs.Rows.{found_extends}
use Rattle.full_search.proofs.full.FullSearch.decide.Goals as goal

pub found_at_once-requires-clause-fits : goal.found_at_once-requires-clause-fits
found_at_once-requires-clause-fits c =
    (subst (λ (view : SolverView). IsOfSlice view.model view.slice c.args.cells.now) (sym c.self.view_is) c.requires).fits

pub found_at_once-requires-clause-node : goal.found_at_once-requires-clause-node
found_at_once-requires-clause-node c = sym c.self.invariant.ready.fails ∙ c.if-not-self.true

pub returns-in-Some-clause-answer : goal.returns-in-Some-clause-answer
returns-in-Some-clause-answer c =
    let s : SolverView = record { model = c.self.inside.tree.model; prefs = c.self.inside.prefs.now; slice = c.self.inside.slice } in
    subst (λ (view : SolverView). c.in-Some.found ≡ is_extendable view.model view.slice c.args.cells.now) c.self.view_is
    (c.in-Some.ensures.found
    ∙ ap (λ (values : List (List ℕ)). (visit s.model values (constrained_params s.model) c.args.cells.now).found) c.self.invariant.tried
    ∙ (plain_search_is_exact s.model s.prefs s.slice c.args.cells.now c.assert_invariant.ensures.sound c.self.invariant.orders c.self.invariant.slice
    (subst (λ (view : SolverView). IsOfSlice view.model view.slice c.args.cells.now) (sym c.self.view_is) c.requires)).0)

pub find_row-requires-clause-listed : goal.find_row-requires-clause-listed
find_row-requires-clause-listed c =
    let s : SolverView = record { model = c.self.inside.tree.model; prefs = c.self.inside.prefs.now; slice = c.self.inside.slice } in
    subst (λ (values : List (List ℕ)). IsListed values c.args.cells.now) (sym c.self.invariant.tried)
    (is_listed s.model s.prefs s.slice c.args.cells.now c.self.invariant.orders c.self.invariant.slice
    (subst (λ (view : SolverView). IsOfSlice view.model view.slice c.args.cells.now) (sym c.self.view_is) c.requires))

pub returns-clause-answer : goal.returns-clause-answer
returns-clause-answer c =
    let s : SolverView = record { model = c.self.inside.tree.model; prefs = c.self.inside.prefs.now; slice = c.self.inside.slice } in
    subst (λ (view : SolverView). c.find_row.result ≡ is_extendable view.model view.slice c.args.cells.now) c.self.view_is
    (found_extends s.model s.prefs c.self.inside.tree.values s.slice c.args.cells.now c.find_row.new.witness.row c.find_row.result c.self.invariant.tried
    c.self.invariant.orders c.self.invariant.slice
    (subst (λ (view : SolverView). IsOfSlice view.model view.slice c.args.cells.now) (sym c.self.view_is) c.requires)
    c.find_row.ensures.yes c.find_row.ensures.no)
