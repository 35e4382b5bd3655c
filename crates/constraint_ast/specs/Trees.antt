-- The trees of constraints. (PICT's guide; how parts are grouped is this project's rule.)
use Rattle.std.specs.Prelude.{List, [], ◌∷◌}
use Rattle.constraint_ast.specs.declared.tree.RawBody.{RawBody}
use Rattle.constraint_ast.specs.declared.tree.RawBody.TheVariants as bodies
use Rattle.constraint_ast.specs.declared.tree.RawRule.{RawRule}
use Rattle.constraint_ast.specs.declared.tree.RawPred.{RawPred, Term, Not', All', Any', Row_of-RawPred, end_of-RawPred, more_of-RawPred}
use Rattle.constraint_ast.specs.believed.Trees.{Tree, Leaf, Negated, Each, Either, Trees, End, More, BodyTree, Plain, IfThen, IfElse, RuleTree}

-- some trees behind others, and one behind others
abbrev pub joined : Trees → Trees → Trees
joined End others = others
joined (More tree trees) others = More tree (joined trees others)

abbrev pub added : Trees → Tree → Trees
added trees tree = joined trees (More tree End)

-- the tree that a predicate of the code is
abbrev mutual
  pub tree_of : RawPred → Tree
  tree_of (Term line term) = Leaf line term
  tree_of (Not' pointer inner) = Negated (tree_of inner)
  tree_of (All' n parts) = Each (trees_of parts)
  tree_of (Any' n parts) = Either (trees_of parts)

  pub trees_of : {n : _} → Row_of-RawPred n → Trees
  trees_of end_of-RawPred = End
  trees_of (more_of-RawPred part rest) = More (tree_of part) (trees_of rest)

abbrev pub trees_in : List RawPred → Trees
trees_in [] = End
trees_in (part ∷ parts) = More (tree_of part) (trees_in parts)

abbrev pub body_tree : RawBody → BodyTree
body_tree (bodies.Plain pred) = Plain (tree_of pred)
body_tree (bodies.IfThen premise pred) = IfThen (tree_of premise) (tree_of pred)
body_tree (bodies.IfElse premise pred other) = IfElse (tree_of premise) (tree_of pred) (tree_of other)

abbrev pub rule_tree : RawRule → RuleTree
rule_tree rule = record { line = rule.line; body = body_tree rule.body }
