-- How marked constraints become a conflict: enough of them are marked, and then each that isn't needed loses its
-- mark. (This project's rule.)
use Rattle.std.specs.Prelude.{◌≡◌, ℕ, ◌<◌, ◌≤◌, Bool, true, false, List, Option, length, slice_index_or, slice_set}
use Rattle.cov_model.specs.declared.slice.Slice.{Slice}
use Rattle.cov_model.specs.believed.Meaning.{body_holds}
use Rattle.cov_model.specs.believed.Sound.{ModelView}
use Rattle.cov_model.specs.Sound.{rule_at}
use Rattle.definitions.specs.believed.Completion.{is_extendable}
use Rattle.model_lint.specs.Changes.{is_marked}
use Rattle.model_lint.specs.believed.Tests.{part}

-- the constraint of a number is false on a row
pub record IsFalseOn (m : ModelView) (row : List (Option ℕ)) (number : ℕ) : Type 0 where
  pub least : 1 ≤ number
  pub most : number ≤ length m.rules
  pub fails : body_holds m (rule_at m number).body row ≡ false

-- no row of the slice that contains the partial row meets the marked constraints, and of those before a place none can
-- be left out
pub record IsThinTo (m : ModelView) (slice : Slice) (cells : List (Option ℕ)) (marks : List Bool) (i : ℕ) : Type 0 where
  pub long : length marks ≡ length m.rules
  pub enough : is_extendable (part m (is_marked marks)) slice cells ≡ false
  pub needed : (j : ℕ) → j < i → slice_index_or marks j false ≡ true → is_extendable (part m (is_marked (slice_set marks j false))) slice cells ≡ true
