-- The parameter that a node branches on. (This project's rule.)
use Rattle.std.specs.Prelude.{◌≡◌, ℕ, ◌<◌, true, false, List, length, Option}
use Rattle.cov_model.specs.believed.Rows.{is_assigned}
use Rattle.cov_model.specs.believed.Sound.{ModelView}
use Rattle.cov_model.specs.Sound.{rule_at}
use Rattle.definitions.specs.believed.Demand.{is_among}
use Rattle.definitions.specs.believed.Search.{body_params, constrained_params}

-- a node can branch on it: constraints name it, and it has no value on the path
pub record CanBranch (m : ModelView) (cells : List (Option ℕ)) (p : ℕ) : Type 0 where
  pub named : is_among (constrained_params m) p ≡ true
  pub free : is_assigned cells p ≡ false

-- each parameter that the constraint of a number names has a value
abbrev pub GivesNamed : ModelView → ℕ → List (Option ℕ) → Type 0
GivesNamed m rule cells = (q : ℕ) → q < length m.params → is_among (body_params (rule_at m rule).body) q ≡ true → is_assigned cells q ≡ true
