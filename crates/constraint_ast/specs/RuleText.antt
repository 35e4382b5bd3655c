-- The line that writes a constraint's tree. (The language is that of PICT's guide; which of its
-- spellings is written is this project's rule.)
use Rattle.std.specs.Prelude.{ℕ}
use Rattle.constraint_ast.specs.believed.Trees.{Tree, Trees, Leaf, Negated, Each, Either, End, More, BodyTree, Plain, IfThen, IfElse, RuleTree}

-- ---- trees that are the same but for their lines

-- a tree with this line in place of each of its lines
abbrev mutual
  pub tree_at : ℕ → Tree → Tree
  tree_at line (Leaf other term) = Leaf line term
  tree_at line (Negated tree) = Negated (tree_at line tree)
  tree_at line (Each trees) = Each (trees_at line trees)
  tree_at line (Either trees) = Either (trees_at line trees)

  pub trees_at : ℕ → Trees → Trees
  trees_at line End = End
  trees_at line (More tree trees) = More (tree_at line tree) (trees_at line trees)

abbrev pub body_at : ℕ → BodyTree → BodyTree
body_at line (Plain pred) = Plain (tree_at line pred)
body_at line (IfThen premise pred) = IfThen (tree_at line premise) (tree_at line pred)
body_at line (IfElse premise pred other) = IfElse (tree_at line premise) (tree_at line pred) (tree_at line other)

abbrev pub rule_at : ℕ → RuleTree → RuleTree
rule_at line rule = record { line = line; body = body_at line rule.body }
