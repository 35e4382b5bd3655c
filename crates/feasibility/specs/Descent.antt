-- A search that goes straight on: what it finds without going back. (This project's rule.)
use Rattle.std.specs.Prelude.{◌≡◌, ℕ, ◌+◌, ◌<◌, Bool, true, false, List, length, Option, slice_index_or}
use Rattle.cov_model.specs.Fits.{FitsModel}
use Rattle.definitions.specs.believed.Search.{is_failing, visit}
use Rattle.live_sets.specs.Trail.{LiveView, mark_at}
use Rattle.feasibility.specs.Live.{ShowsLive}
use Rattle.feasibility.specs.Path.{reached}
use Rattle.feasibility.specs.Tree.{TreeView}

-- the partial row is a node that doesn't fail, and the sets show the values that are live there
pub record IsNode (tree : TreeView) (cells : List (Option ℕ)) (sets : LiveView) : Type 0 where
  pub fits : FitsModel tree.model cells
  pub node : is_failing tree.model tree.values cells ≡ false
  pub live : ShowsLive tree.model tree.values cells sets

-- of a list of a parameter's values the one at a place is the first live one
pub record IsFirstLive (marks : List (List Bool)) (p : ℕ) (values : List ℕ) (k : ℕ) : Type 0 where
  pub within : k < length values
  pub live : mark_at marks p (slice_index_or values k 0) ≡ true
  pub dead : (j : ℕ) → j < k → mark_at marks p (slice_index_or values j 0) ≡ false

-- a search of one partial row, given the constrained parameters that are left, comes to another one with these left
-- once it has visited so many nodes: what it finds from there on is what it finds
pub record ComesTo (tree : TreeView) (params left : List ℕ) (row cells : List (Option ℕ)) (nodes : ℕ) : Type 0 where
  pub found : (visit tree.model tree.values left cells).found ≡ true → (visit tree.model tree.values params row).found ≡ true
  pub cost : (visit tree.model tree.values left cells).found ≡ true
      → (visit tree.model tree.values params row).cost ≡ nodes + (visit tree.model tree.values left cells).cost
  pub path : (visit tree.model tree.values left cells).found ≡ true
      → reached tree.model tree.values params row ≡ reached tree.model tree.values left cells
