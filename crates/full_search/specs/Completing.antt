-- The first completion of a path, value by value. (This project's rule.)
use Rattle.std.specs.Prelude.{◌≡◌, ℕ, ◌<◌, true, List, Option, find}
use Rattle.cov_model.specs.believed.Rows.{is_assigned}
use Rattle.definitions.specs.believed.Completion.{completions, meets_rules}
use Rattle.live_sets.specs.Trail.{LiveView}
use Rattle.feasibility.specs.Tree.{TreeView, constrained_at}
use Rattle.full_search.specs.Reasons.{IsRowFor}
use Rattle.full_search.specs.Searching.{IsAt}
use Rattle.full_search.specs.declared.witness.Witness.{Witness}

-- the first row of listed values that contains the partial row and meets every constraint
abbrev pub first_row : TreeView → List (Option ℕ) → Option (List (Option ℕ))
first_row tree cells = find (meets_rules tree.model) (completions tree.values cells)

-- the witness is a row for the path
pub record HasRow (tree : TreeView) (cells : List (Option ℕ)) (sets : LiveView) (witness : Witness) : Type 0 where
  pub at : IsAt tree cells sets witness
  pub row : IsRowFor tree cells witness.row

-- so many of the constrained parameters have values, with which a path has the first row of another one
pub record IsSettled (tree : TreeView) (i : ℕ) (start cells : List (Option ℕ)) : Type 0 where
  pub given : (j : ℕ) → j < i → is_assigned cells (constrained_at tree.model j) ≡ true
  pub same : first_row tree cells ≡ first_row tree start
