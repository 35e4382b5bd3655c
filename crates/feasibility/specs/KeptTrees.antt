-- The tree that was made last for a proof in format 1, and which tuples it refutes too. (This project's rule.)
use Rattle.std.specs.Prelude.{◌≡◌, ℕ, ◌≤◌, Bool, true, false, not, List, [], length, map, replicate, Option, None}
use Rattle.cov_model.specs.believed.Sound.{ModelView}
use Rattle.cov_model.specs.believed.Rows.{is_assigned}
use Rattle.definitions.specs.believed.Refutation.{Token, Branch, ByRule, ByNegative, ByOmission, is_eager}
use Rattle.definitions.specs.believed.Search.{constrained_params, visit}
use Rattle.definitions.specs.believed.SuiteProof.{branch_count}
use Rattle.refutation.specs.declared.token.TreeToken.{TreeToken}
use Rattle.refutation.specs.Proofs.{meant}
use Rattle.feasibility.specs.declared.kept_tree.KeptTree.{KeptTree}
use Rattle.feasibility.specs.Refuting.{RefuterView}

-- the tokens are an eager tree for the tuple, with no more branches than a search of it visits nodes
pub record IsTreeFor (r : RefuterView) (tree : List TreeToken) : Type 0 where
  pub eager : is_eager r.model r.format r.earlier r.tuple (map meant tree) ≡ true
  pub few : branch_count (map meant tree) ≤ (visit r.model r.lists (constrained_params r.model) r.tuple).cost

-- if a tree is known, it is one for its tuple in format 1, after some tuples
pub record IsKeptTree (m : ModelView) (lists : List (List ℕ)) (kept : KeptTree) : Type 0 where
  pub long : length kept.cells ≡ length m.params
  pub earlier : List (List (Option ℕ))
  pub tree : kept.known ≡ true → IsTreeFor (record { model = m; lists = lists; format = 1; earlier = earlier; tuple = kept.cells }) kept.tree

-- no tree, with room for a tuple of so many parameters
abbrev pub no_tree : ℕ → KeptTree
no_tree count = record { known = false; cells = replicate count None; tree = [] }

-- a branch is on a parameter to which the tuple gives no value
abbrev pub is_free : List (Option ℕ) → Token → Bool
is_free tuple (Branch p) = not (is_assigned tuple p)
is_free tuple (ByRule k) = true
is_free tuple ByNegative = true
is_free tuple (ByOmission n) = true
