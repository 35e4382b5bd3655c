-- What a tree is checked against, and when tokens begin with trees. (This project's rule.)
use Rattle.std.specs.Prelude.{◌≡◌, ℕ, ◌<◌, Bool, false, List, ◌++◌, map, length, Option, All, ◌==◌}
use Rattle.std.specs.List.{list_any}
use Rattle.cov_model.specs.believed.Sound.{ModelView, param_at}
use Rattle.cov_model.specs.believed.Tuples.{cells_of}
use Rattle.definitions.specs.believed.Refutation.{refute_paths}
use Rattle.refutation.specs.declared.omissions.Omission.{Omission}
use Rattle.refutation.specs.declared.omissions.ProofForm.{ProofForm}
use Rattle.refutation.specs.declared.token.TreeToken.{TreeToken}
use Rattle.refutation.specs.believed.Proofs.{format_of}
use Rattle.refutation.specs.Proofs.{meant}

-- each parameter and each value of the pairs exists in the model
abbrev pub AreOfModel : ModelView → List (ℕ × ℕ) → Type 0
AreOfModel m pairs = All (λ pair. (pair.0 < length m.params) × (pair.1 < length (param_at m.params pair.0).values)) pairs

-- the tuples of omissions, as partial rows of the model
abbrev pub tuples_of : ModelView → List Omission → List (List (Option ℕ))
tuples_of m omissions = map (λ omission. cells_of (length m.params) omission.tuple) omissions

-- one of the pairs has the parameter
abbrev pub has_param : List (ℕ × ℕ) → ℕ → Bool
has_param pairs p = list_any (λ pair. pair.0 == p) pairs

-- a constraint has the number
abbrev pub has_rule : ModelView → ℕ → Bool
has_rule m k = list_any (λ rule. rule.number == k) m.rules

-- what a tree is checked against: the model, the format, the omissions that may be cited, and the tuple
pub record CheckView : Type 0 where
  pub model : ModelView
  pub form : ProofForm
  pub earlier : List Omission
  pub tuple : List (ℕ × ℕ)

-- the tuples are of the model
pub record IsCheck (check : CheckView) : Type 0 where
  pub tuple : AreOfModel check.model check.tuple
  pub earlier : All (λ omission. AreOfModel check.model omission.tuple) check.earlier

-- the tuple, and those that may be cited, as partial rows
abbrev pub tuple_in : CheckView → List (Option ℕ)
tuple_in check = cells_of (length check.model.params) check.tuple

abbrev pub earlier_in : CheckView → List (List (Option ℕ))
earlier_in check = tuples_of check.model check.earlier

-- the tokens are a tree for each of the paths
abbrev pub are_refuted : CheckView → List (List (Option ℕ)) → List TreeToken → Bool
are_refuted check paths tokens = refute_paths check.model (format_of check.form) (earlier_in check) (tuple_in check) paths (map meant tokens)

-- the tokens begin with a tree for each of the paths, and the rest stands behind these: whatever the further
-- paths are, the tokens refute all exactly if the rest refutes those
abbrev pub BeginsWithTrees : CheckView → List (List (Option ℕ)) → List TreeToken → List TreeToken → Type 0
BeginsWithTrees check paths tokens rest =
    (further : List (List (Option ℕ))) → are_refuted check (paths ++ further) tokens ≡ are_refuted check further rest

-- they don't, whatever further paths there are
abbrev pub LacksTrees : CheckView → List (List (Option ℕ)) → List TreeToken → Type 0
LacksTrees check paths tokens = (further : List (List (Option ℕ))) → are_refuted check (paths ++ further) tokens ≡ false
