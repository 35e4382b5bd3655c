-- Values of a few parameters that no row has together, which are kept from question to question. (Kept nogoods of
-- constraint solvers; this project's rule.)
use Rattle.std.specs.Prelude.{◌≡◌, ℕ, ◌<◌, ◌≤◌, false, List, Option, Some, None, All, IfSome, slice_index_or}
use Rattle.cov_model.specs.believed.Rows.{is_assigned}
use Rattle.definitions.specs.believed.Completion.{meets_rules}
use Rattle.definitions.specs.Laws.{GivesListed}
use Rattle.feasibility.specs.Tree.{TreeView}
use Rattle.full_search.specs.declared.conflict.Conflict.{Conflict}
use Rattle.full_search.specs.declared.conflict.Pair.{Pair}
use Rattle.full_search.specs.declared.conflicts.Conflicts.{Conflicts}

-- a partial row gives the parameter this value
abbrev pub Gives : List (Option ℕ) → Pair → Type 0
Gives cells pair = slice_index_or cells pair.param None ≡ Some pair.value

-- each row of listed values that has these values breaks a constraint
abbrev pub IsConflict : TreeView → Conflict → Type 0
IsConflict tree conflict = (row : List (Option ℕ)) → GivesListed tree.values row → Gives row conflict.first → Gives row conflict.second
    → Gives row conflict.third → meets_rules tree.model row ≡ false

-- it is one whose values the cells have
pub record RulesOut (tree : TreeView) (cells : List (Option ℕ)) (conflict : Conflict) : Type 0 where
  pub is : IsConflict tree conflict
  pub first : Gives cells conflict.first
  pub second : Gives cells conflict.second
  pub third : Gives cells conflict.third

-- what is kept are conflicts
pub record AreKept (tree : TreeView) (kept : Conflicts) : Type 0 where
  pub slots : All (λ slot. IfSome slot (IsConflict tree)) kept.slots.items
  pub last : IfSome kept.last (IsConflict tree)

-- the first value that a partial row gives a parameter from a number on
pub record IsNext (cells : List (Option ℕ)) (from : ℕ) (pair : Pair) : Type 0 where
  pub behind : from ≤ pair.param
  pub gives : Gives cells pair
  pub first : (q : ℕ) → from ≤ q → q < pair.param → is_assigned cells q ≡ false

-- it gives none
abbrev pub GivesNone : List (Option ℕ) → ℕ → Type 0
GivesNone cells from = (q : ℕ) → from ≤ q → is_assigned cells q ≡ false
