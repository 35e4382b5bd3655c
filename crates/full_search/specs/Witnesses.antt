-- The row that a search is at, and the constraints that it breaks. (This project's rule; after the saved phases of
-- solvers for satisfiability.)
use Rattle.std.specs.Prelude.{◌≡◌, ℕ, suc, Bool, ◌<◌, ◌≤◌, true, false, not, List, [], length, Option, slice_index_or}
use Rattle.cov_model.specs.believed.Sound.{ModelView}
use Rattle.cov_model.specs.Sound.{rule_at}
use Rattle.cov_model.specs.believed.Kleene.{body_truth}
use Rattle.compiled_rules.specs.Codes.{is_yes}
use Rattle.definitions.specs.believed.Demand.{is_among}
use Rattle.definitions.specs.Laws.{GivesListed}
use Rattle.feasibility.specs.Tree.{TreeView}
use Rattle.full_search.specs.declared.witness.Witness.{Witness}

-- the constraint of a number isn't known to hold on a row
abbrev pub is_broken_on : ModelView → List (Option ℕ) → ℕ → Bool
is_broken_on m row k = not (is_yes (body_truth m (rule_at m k).body row))

-- the row gives each parameter a listed value, and marks are set for the constraints that it breaks, each at its
-- number; no constraint has the number 0
pub record IsWitness (tree : TreeView) (witness : Witness) : Type 0 where
  pub row : GivesListed tree.values witness.row
  pub long : length witness.broken ≡ suc (length tree.model.rules)
  pub first : slice_index_or witness.broken 0 false ≡ false
  pub marks : (k : ℕ) → 0 < k → k ≤ length tree.model.rules → slice_index_or witness.broken k false ≡ is_broken_on tree.model witness.row k

-- the marks of these constraints became those of a test, the others are as before
pub record MarksAnew (numbers : List ℕ) (test : ℕ → Bool) (old new : List Bool) : Type 0 where
  pub long : length new ≡ length old
  pub those : (k : ℕ) → is_among numbers k ≡ true → slice_index_or new k false ≡ test k
  pub others : (k : ℕ) → is_among numbers k ≡ false → slice_index_or new k false ≡ slice_index_or old k false

-- the row breaks a constraint
pub record BreaksOne (m : ModelView) (row : List (Option ℕ)) : Type 0 where
  pub number : ℕ
  pub some : 0 < number
  pub most : number ≤ length m.rules
  pub broken : is_broken_on m row number ≡ true

-- each parameter has a listed value
abbrev pub ListsEach : List (List ℕ) → Type 0
ListsEach lists = (p : ℕ) → p < length lists → 0 < length (slice_index_or lists p [])
