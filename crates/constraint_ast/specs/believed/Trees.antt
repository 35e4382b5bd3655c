-- The trees of constraints. (PICT's guide; how parts are grouped is this project's rule.)
use Rattle.std.specs.Prelude.{ℕ}
use Rattle.constraint_ast.specs.declared.tree.RawTerm.{RawTerm}

-- a predicate: a term behind the line of its first token, a negation, a conjunction or a disjunction
mutual
  pub data Tree : Type 0 where
    Leaf : ℕ → RawTerm → Tree
    Negated : Tree → Tree
    Each : Trees → Tree
    Either : Trees → Tree

  pub data Trees : Type 0 where
    End : Trees
    More : Tree → Trees → Trees

-- a constraint, behind the line of its first token
pub data BodyTree : Type 0 where
  Plain : Tree → BodyTree
  IfThen : Tree → Tree → BodyTree
  IfElse : Tree → Tree → Tree → BodyTree

pub record RuleTree : Type 0 where
  pub line : ℕ
  pub body : BodyTree

-- the conjunction and the disjunction of parts: one part is itself
abbrev pub all_of : Trees → Tree
all_of End = Each End
all_of (More tree End) = tree
all_of (More tree (More next trees)) = Each (More tree (More next trees))

abbrev pub any_of : Trees → Tree
any_of End = Either End
any_of (More tree End) = tree
any_of (More tree (More next trees)) = Either (More tree (More next trees))
