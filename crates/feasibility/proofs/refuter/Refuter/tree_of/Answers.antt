use Rattle.std.proofs.Common.{◌≡◌, ℕ, Option, List, false, length, ◌∙◌, sym, ap, subst}
use Rattle.cov_model.specs.Fits.{FitsModel}
use Rattle.definitions.specs.believed.Search.{constrained_params, visit}
use Rattle.feasibility.specs.declared.answer.Answer.{Answer}
use Rattle.feasibility.specs.Answers.{answer_of, searched}
use Rattle.feasibility.specs.KeptTrees.{IsTreeFor}
use Rattle.feasibility.specs.Recurring.{AreAnswered}
use Rattle.feasibility.specs.Refuting.{RefuterView}
use Rattle.feasibility.specs.Solving.{IsReady}
use Rattle.feasibility.specs.Tree.{IsListed, TreeView}
use Rattle.feasibility.proofs.SolverTrees.{EndsBy, ends_by}
use Rattle.feasibility.proofs.refuter.Refuter.tree_of.Goals as goal

-- a search of the tuple answers No, or that the budget is spent
search_ends : (r : RefuterView) (t : TreeView) (cells : List (Option ℕ)) (budget : ℕ) (answer : Answer) → t ≡ record { model = r.model; values = r.lists }
    → cells ≡ r.tuple → answer ≡ answer_of (searched t cells).found (searched t cells).cost budget
    → (visit r.model r.lists (constrained_params r.model) r.tuple).found ≡ false
    → EndsBy (visit r.model r.lists (constrained_params r.model) r.tuple).cost budget answer
search_ends r t cells budget answer tree are told unfound =
    let searched_in = λ (row : List (Option ℕ)). visit r.model r.lists (constrained_params r.model) row in
    ends_by (searched_in r.tuple).found (searched_in r.tuple).cost budget answer
    (told ∙ ap (λ (s : TreeView). answer_of (searched s cells).found (searched s cells).cost budget) tree
    ∙ ap (λ (row : List (Option ℕ)). answer_of (searched_in row).found (searched_in row).cost budget) are) unfound

pub search_from-requires-clause-fits : goal.search_from-requires-clause-fits
search_from-requires-clause-fits c =
    subst (λ (t : TreeView). FitsModel t.model c.begin.new.cells) (sym c.tree.ensures)
    (subst (FitsModel c.args.self.now.model) (sym c.begin.ensures) c.requires.fits)

pub search_from-requires-clause-listed : goal.search_from-requires-clause-listed
search_from-requires-clause-listed c =
    subst (λ (t : TreeView). IsListed t.values c.begin.new.cells) (sym c.tree.ensures)
    (subst (IsListed c.args.self.now.lists) (sym c.begin.ensures) c.requires.listed)

pub search_from-requires-clause-ready : goal.search_from-requires-clause-ready
search_from-requires-clause-ready c =
    subst (λ (t : TreeView). IsReady t.model t.values c.args.fails c.args.sets.now) (sym c.tree.ensures) c.requires.ready

pub search_from-requires-clause-kept : goal.search_from-requires-clause-kept
search_from-requires-clause-kept c =
    subst (λ (t : TreeView). AreAnswered t.model t.values c.args.table.now) (sym c.tree.ensures) c.requires.answered

pub returns-in-Spent-clause-spent : goal.returns-in-Spent-clause-spent
returns-in-Spent-clause-spent c = λ spent.
    (search_ends c.args.self.now c.tree.result.now c.begin.new.cells c.args.budget c.search_from.result c.tree.ensures c.begin.ensures
    c.search_from.ensures.answer c.requires.unfound).spent c.in-Spent.is

pub returns-in-Spent-clause-long : goal.returns-in-Spent-clause-long
returns-in-Spent-clause-long c = c.search_from.ensures.long ∙ ap length c.begin.ensures ∙ c.requires.fits.as_long ∙ sym c.requires.long

pub can_reuse-requires : goal.can_reuse-requires
can_reuse-requires c =
    let ends = search_ends c.args.self.now c.tree.result.now c.begin.new.cells c.args.budget c.search_from.result c.tree.ensures c.begin.ensures
    c.search_from.ensures.answer c.requires.unfound in
    record {
      tuple = c.search_from.ensures.no (ends.no c.in_default.not-Spent) ∙ c.begin.ensures;
      fits = c.requires.fits;
      node = sym c.requires.ready.fails ∙ c.if-not-fails.true;
      kept = c.requires.kept;
    }

pub make_tree-requires : goal.make_tree-requires
make_tree-requires c =
    let r = c.args.self.now in
    let ends = search_ends r c.tree.result.now c.begin.new.cells c.args.budget c.search_from.result c.tree.ensures c.begin.ensures
    c.search_from.ensures.answer c.requires.unfound in
    record {
      tuple = c.search_from.ensures.no (ends.no c.in_default.not-Spent) ∙ c.begin.ensures;
      fits = c.requires.fits;
      listed = c.requires.listed;
      ready = subst (IsReady r.model r.lists c.args.fails) (sym c.search_from.ensures.sets) c.requires.ready;
      unfound = c.requires.unfound;
      kept = c.requires.kept;
    }

pub returns-then-can_reuse : goal.returns-then-can_reuse
returns-then-can_reuse c =
    let r = c.args.self.now in
    record {
      tree = subst (IsTreeFor r) (sym c.in_ok-copy.ensures) (c.can_reuse.ensures c.if-can_reuse.true);
      within = (search_ends r c.tree.result.now c.begin.new.cells c.args.budget c.search_from.result c.tree.ensures c.begin.ensures
          c.search_from.ensures.answer c.requires.unfound).within c.in_default.not-Spent;
      spent = λ spent. cc;
      long = c.search_from.ensures.long ∙ ap length c.begin.ensures ∙ c.requires.fits.as_long ∙ sym c.requires.long;
      sets = c.search_from.ensures.sets;
      kept = c.requires.kept;
    }
