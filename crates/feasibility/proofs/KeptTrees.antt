-- The tree that is kept, and the tuples that it refutes too.
use Rattle.std.proofs.Common.{◌≡◌, ℕ, true, false, List, [], ◌∷◌, length, map, Option, None, ◌∙◌, sym, ap, arith}
use Rattle.std.specs.List.{list_all}
use Rattle.std.proofs.lemmas.Bool.{false≢true}
use Rattle.std.proofs.lemmas.List.{length-replicate}
use Rattle.std.proofs.lemmas.List.Folds.{list_all-map}
use Rattle.cov_model.specs.believed.Sound.{ModelView}
use Rattle.cov_model.specs.believed.Valid.{param_numbers}
use Rattle.definitions.specs.believed.Refutation.{is_eager}
use Rattle.definitions.specs.believed.Search.{Outcome, constrained_params, is_failing, visit}
use Rattle.refutation.specs.declared.token.TreeToken.{TreeToken}
use Rattle.refutation.specs.Proofs.{meant}
use Rattle.feasibility.specs.declared.kept_tree.KeptTree.{KeptTree}
use Rattle.feasibility.specs.KeptTrees.{IsKeptTree, IsTreeFor, is_free, no_tree}
use Rattle.feasibility.specs.Recurring.{AgreeOnNamed}
use Rattle.feasibility.specs.Refuting.{Closes, RefuterView}
use Rattle.feasibility.specs.Tree.{ListsValues, is_named, no_values}
use Rattle.feasibility.proofs.AddedTrees.{closes_few, closes_tuple}
use Rattle.feasibility.proofs.Extendable.{among_filter_test}
use Rattle.feasibility.proofs.Recurring.{has_values, visit_agree}
use Rattle.feasibility.proofs.SameTrees.{eager_again}

-- no tree
pub none_is_kept : (m : ModelView) (lists : List (List ℕ)) → IsKeptTree m lists (no_tree (length m.params))
none_is_kept m lists = record {
  long = length-replicate (length m.params) None;
  earlier = [];
  tree = λ known. absurd (false≢true known);
}

-- the tree that is made
pub tree_made : (r : RefuterView) (tree : List TreeToken)
    → Closes r (r.tuple ∷ []) (visit r.model r.lists (constrained_params r.model) r.tuple).cost [] tree → IsTreeFor r tree
tree_made r tree closes = record {
  eager = closes_tuple r (visit r.model r.lists (constrained_params r.model) r.tuple).cost tree closes;
  few = closes_few r (r.tuple ∷ []) (visit r.model r.lists (constrained_params r.model) r.tuple).cost tree closes;
}

-- it may be kept
pub tree_is_kept : (r : RefuterView) (kept : KeptTree) → length r.tuple ≡ length r.model.params → r.format ≡ 1 → IsTreeFor r kept.tree
    → kept.cells ≡ r.tuple → IsKeptTree r.model r.lists kept
tree_is_kept r kept long one tree cells = record {
  long = ap length cells ∙ long;
  earlier = r.earlier;
  tree = λ known. record {
    eager =
        ap (λ (row : List (Option ℕ)). is_eager r.model 1 r.earlier row (map meant kept.tree)) cells
        ∙ ap (λ (format : ℕ). is_eager r.model format r.earlier r.tuple (map meant kept.tree)) (sym one) ∙ tree.eager;
    few = omega (arith, ap (λ (row : List (Option ℕ)). (visit r.model r.lists (constrained_params r.model) row).cost) cells, tree.few);
  };
}

-- and goes for a tuple that gives the parameters which constraints name the same values
pub tree_again : (r : RefuterView) (kept : KeptTree) → ListsValues r.model r.lists → is_failing r.model r.lists (no_values r.model) ≡ false
    → r.format ≡ 1 → IsKeptTree r.model r.lists kept → kept.known ≡ true → AgreeOnNamed r.model kept.cells r.tuple
    → list_all (λ (token : TreeToken). is_free r.tuple (meant token)) kept.tree ≡ true → IsTreeFor r kept.tree
tree_again r kept values node one is known agree free =
    let tree = is.tree known in
    let same : visit r.model r.lists (constrained_params r.model) kept.cells ≡ visit r.model r.lists (constrained_params r.model) r.tuple =
    visit_agree r.model r.lists (constrained_params r.model) kept.cells r.tuple values.as_many (has_values r.model r.lists node)
    (λ p listed. among_filter_test (is_named r.model) p (param_numbers r.model) listed) agree in
    record {
      eager =
          ap (λ (format : ℕ). is_eager r.model format r.earlier r.tuple (map meant kept.tree)) one
          ∙ eager_again r.model is.earlier r.earlier kept.cells r.tuple (map meant kept.tree) agree
          (list_all-map (is_free r.tuple) meant kept.tree ∙ free) tree.eager;
      few = omega (arith, ap (λ (o : Outcome). o.cost) same, tree.few);
    }
