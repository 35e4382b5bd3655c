-- Partial rows that no row completes, and the reasons why. (Conflict-directed backjumping of Prosser 1993: a
-- refutation that doesn't speak of the parameter that was branched on refutes the node.)
use Rattle.std.specs.Prelude.{◌≡◌, ◌≢◌, ℕ, true, false, List, length, Option, None, slice_index_or}
use Rattle.cov_model.specs.believed.Sound.{ModelView}
use Rattle.cov_model.specs.Sound.{rule_at}
use Rattle.cov_model.specs.believed.Rows.{contains, is_assigned, with_value}
use Rattle.definitions.specs.believed.Completion.{meets_rules}
use Rattle.definitions.specs.believed.Demand.{is_among}
use Rattle.definitions.specs.Laws.{GivesListed}
use Rattle.definitions.specs.believed.Search.{body_params}
use Rattle.feasibility.specs.Tree.{TreeView}

-- each row of listed values that contains the partial row breaks a constraint
abbrev pub HasNoRow : TreeView → List (Option ℕ) → Type 0
HasNoRow tree cells = (row : List (Option ℕ)) → GivesListed tree.values row → contains row cells ≡ true → meets_rules tree.model row ≡ false

-- a row of listed values contains the partial row and meets every constraint
pub record IsRowFor (tree : TreeView) (cells row : List (Option ℕ)) : Type 0 where
  pub listed : GivesListed tree.values row
  pub contained : contains row cells ≡ true
  pub meets : meets_rules tree.model row ≡ true

-- the values of the one partial row are values of the other, which has as many places
pub record IsPart (part cells : List (Option ℕ)) : Type 0 where
  pub long : length part ≡ length cells
  pub same : (q : ℕ) → is_assigned part q ≡ true → slice_index_or cells q None ≡ slice_index_or part q None

-- the reason of a path: a part of it that no row completes
pub record IsReason (tree : TreeView) (path why : List (Option ℕ)) : Type 0 where
  pub part : IsPart why path
  pub none : HasNoRow tree why

-- while the values of a parameter are tried on a path, its reason is a part of the path without a value of the
-- parameter, and it grows
pub record Grows (path : List (Option ℕ)) (p : ℕ) (old new : List (Option ℕ)) : Type 0 where
  pub kept : IsPart old new
  pub part : IsPart new path
  pub free : is_assigned new p ≡ false

-- it has grown, and no row completes it with a value of the parameter
pub record GrowsBy (tree : TreeView) (path : List (Option ℕ)) (p v : ℕ) (old new : List (Option ℕ)) : Type 0 where
  pub grows : Grows path p old new
  pub refuted : HasNoRow tree (with_value new p v)

-- the reason has what the path gives the parameters that a constraint names, but for one parameter
abbrev pub HasMembers : ModelView → ℕ → ℕ → List (Option ℕ) → List (Option ℕ) → Type 0
HasMembers m rule p path why = (q : ℕ) → q ≢ p → is_among (body_params (rule_at m rule).body) q ≡ true
    → slice_index_or why q None ≡ slice_index_or path q None

-- no row completes a partial row with any of these values of a parameter
abbrev pub RefutesEach : TreeView → List (Option ℕ) → ℕ → List ℕ → Type 0
RefutesEach tree why p values = (v : ℕ) → is_among values v ≡ true → HasNoRow tree (with_value why p v)
