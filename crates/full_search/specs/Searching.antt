-- What a search of every question is given and gives. (This project's rule.)
use Rattle.std.specs.Prelude.{◌≡◌, ℕ, ◌<◌, Bool, true, false, List, [], length, All, Option, slice_index_or, is_none}
use Rattle.std.specs.List.{count_by}
use Rattle.live_sets.specs.Trail.{LiveView}
use Rattle.feasibility.specs.Descent.{IsNode}
use Rattle.feasibility.specs.Tree.{IsListed, TreeView}
use Rattle.full_search.specs.Reasons.{GrowsBy, IsPart, IsReason, IsRowFor}
use Rattle.full_search.specs.Witnesses.{IsWitness}
use Rattle.full_search.specs.declared.witness.Witness.{Witness}
use Rattle.full_search.specs.declared.searching.Tried.{Tried}
use Rattle.full_search.specs.declared.searching.Tried.TheVariants.{Found, Refuted, Jumped}

-- how many parameters have no value
abbrev pub free_count : List (Option ℕ) → ℕ
free_count cells = count_by is_none cells

-- a path is a node that doesn't fail, its values are listed, and the witness has them
pub record IsAt (tree : TreeView) (cells : List (Option ℕ)) (sets : LiveView) (witness : Witness) : Type 0 where
  pub node : IsNode tree cells sets
  pub listed : IsListed tree.values cells
  pub kept : IsWitness tree witness
  pub part : IsPart cells witness.row

-- there is room for a reason of the path and one for each path below it
pub record HasRoom (cells : List (Option ℕ)) (whys : List (List (Option ℕ))) : Type 0 where
  pub enough : free_count cells < length whys
  pub long : All (λ why. length why ≡ length cells) whys

-- a search of the path ends with a witness that is a row for it, or with a reason in the first place
pub record SearchTells (tree : TreeView) (cells : List (Option ℕ)) (found : Bool) (witness : Witness) (old new : List (List (Option ℕ))) : Type 0 where
  pub yes : found ≡ true → IsRowFor tree cells witness.row
  pub no : found ≡ false → IsReason tree cells (slice_index_or new 0 [])
  pub kept : IsWitness tree witness
  pub part : IsPart cells witness.row
  pub as_many : length new ≡ length old
  pub long : All (λ why. length why ≡ length cells) new

-- a value of a parameter was tried on a path: the witness is a row for the path, or its reason has grown by the
-- value, or it has become one that doesn't speak of the parameter
pub record TriedTells (tree : TreeView) (cells : List (Option ℕ)) (p v : ℕ) (tried : Tried) (witness : Witness) (why_old why_new : List (Option ℕ))
    (old new : List (List (Option ℕ))) : Type 0 where
  pub row : tried ≡ Found → IsRowFor tree cells witness.row
  pub refuted : tried ≡ Refuted → GrowsBy tree cells p v why_old why_new
  pub jumped : tried ≡ Jumped → IsReason tree cells why_new
  pub kept : IsWitness tree witness
  pub part : IsPart cells witness.row
  pub same : length why_new ≡ length why_old
  pub as_many : length new ≡ length old
  pub long : All (λ why. length why ≡ length cells) new
