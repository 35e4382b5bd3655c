-- Trees that refute a path, and each shorter path that still has their reason: so a tree that doesn't speak of the
-- parameter that was branched on is one for the path without its value. (This project's rule.)
use Rattle.std.specs.Prelude.{◌≡◌, ℕ, true, false, List, [], ◌∷◌, length, All, Option}
use Rattle.cov_model.specs.believed.Meaning.{value_at}
use Rattle.cov_model.specs.believed.Sound.{ModelView}
use Rattle.cov_model.specs.believed.Rows.{with_value}
use Rattle.definitions.specs.believed.Refutation.{Token, is_first_leaf, is_leaf, leaves}
use Rattle.definitions.specs.believed.Search.{breaks_a_rule}
use Rattle.live_sets.specs.Trail.{LiveView, mark_at}
use Rattle.refutation.specs.declared.token.TreeToken.{TreeToken}
use Rattle.feasibility.specs.Refuting.{Closes, HasNoLeaf, IsPath, RefuterView}
use Rattle.feasibility.specs.Tree.{TreeView}
use Rattle.full_search.specs.Reasons.{Grows, HasNoRow, IsPart}
use Rattle.full_search.specs.Searching.{IsAt}
use Rattle.full_search.specs.Witnesses.{IsWitness}
use Rattle.full_search.specs.declared.closing.Closed.{Closed}
use Rattle.full_search.specs.declared.closing.Closed.TheVariants.{Added, Whole}
use Rattle.full_search.specs.declared.witness.Witness.{Witness}

-- what a refuter searches
abbrev pub tree_of : RefuterView → TreeView
tree_of r = record { model = r.model; values = r.lists }

-- a value that isn't live is negative, or a constraint is No with it; with one that is live neither is so
pub record TellsOf (m : ModelView) (cells : List (Option ℕ)) (sets : LiveView) (p v : ℕ) : Type 0 where
  pub dead : mark_at sets.live p v ≡ false → (value_at m p v).negative ≡ false → breaks_a_rule m (with_value cells p v) ≡ true
  pub positive : mark_at sets.live p v ≡ true → (value_at m p v).negative ≡ false
  pub unbroken : mark_at sets.live p v ≡ true → breaks_a_rule m (with_value cells p v) ≡ false

-- the leaf is possible on a path, and no other comes before it
pub record IsFirstLeaf (r : RefuterView) (path : List (Option ℕ)) (token : Token) : Type 0 where
  pub possible : is_leaf r.model r.format r.earlier r.tuple path token ≡ true
  pub first : is_first_leaf (leaves r.model r.format r.earlier r.tuple path) token ≡ true

-- so it is with a value of a parameter on each part of a path that has the reason
abbrev pub IsLeafBetween : RefuterView → List (Option ℕ) → List (Option ℕ) → ℕ → ℕ → Token → Type 0
IsLeafBetween r why path p v token =
    (short : List (Option ℕ)) → IsPart why short → IsPart short path → IsFirstLeaf r (with_value short p v) token

-- trees of each part of a path that has the reason were added to the tokens
abbrev pub ClosesBetween : RefuterView → List (Option ℕ) → List (Option ℕ) → List TreeToken → List TreeToken → Type 0
ClosesBetween r why path old new =
    (short : List (Option ℕ)) → IsPart why short → IsPart short path → Closes r (short ∷ []) (length new) old new

-- so it is with a value of a parameter
abbrev pub ClosesWith : RefuterView → List (Option ℕ) → List (Option ℕ) → ℕ → ℕ → List TreeToken → List TreeToken → Type 0
ClosesWith r why path p v old new =
    (short : List (Option ℕ)) → IsPart why short → IsPart short path → Closes r (with_value short p v ∷ []) (length new) old new

-- a path of a tree whose node doesn't fail, that no row contains, and on which no leaf is possible
pub record IsOpen (r : RefuterView) (cells : List (Option ℕ)) (sets : LiveView) (witness : Witness) : Type 0 where
  pub path : IsPath r cells
  pub leafless : HasNoLeaf r cells
  pub at : IsAt (tree_of r) cells sets witness
  pub none : HasNoRow (tree_of r) cells

-- the reason is part of the path, and trees of each part of the path that has it were added
pub record IsClosed (r : RefuterView) (cells why : List (Option ℕ)) (old new : List TreeToken) : Type 0 where
  pub part : IsPart why cells
  pub closes : ClosesBetween r why cells old new

-- a value of a parameter was closed on a path: its tree was added and the reason has grown, or there is a tree of
-- the path
pub record ValueClosed (r : RefuterView) (cells : List (Option ℕ)) (p v : ℕ) (why_old why_new : List (Option ℕ)) (old new : List TreeToken)
    (closed : Closed) : Type 0 where
  pub added : closed ≡ Added → Grows cells p why_old why_new × ClosesWith r why_new cells p v old new
  pub whole : closed ≡ Whole → IsClosed r cells why_new old new

-- whatever comes of it, the witness is one of the path, and there is room as before
pub record KeepsRoom (r : RefuterView) (cells : List (Option ℕ)) (witness : Witness) (old new : List (List (Option ℕ))) : Type 0 where
  pub kept : IsWitness (tree_of r) witness
  pub part : IsPart cells witness.row
  pub as_many : length new ≡ length old
  pub long : All (λ why. length why ≡ length cells) new
