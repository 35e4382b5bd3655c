-- Sets of parameters as they are walked. (How this program finds the smallest suspicious tuples; no public clause
-- speaks of it.)
use Rattle.std.specs.Prelude.{◌≡◌, ℕ, ◌<◌, List, Option, length, All, AllPairs}
use Rattle.cov_model.specs.believed.Sound.{ModelView}

-- parameters of the model, rising
pub record AreParams (m : ModelView) (set : List ℕ) : Type 0 where
  pub rising : AllPairs (λ p q. p < q) set
  pub exist : All (λ p. p < length m.params) set

-- parameters before this one, rising
pub record AreBefore (first : ℕ) (set : List ℕ) : Type 0 where
  pub rising : AllPairs (λ p q. p < q) set
  pub before : All (λ p. p < first) set

-- each row has a place for each of the parameters
abbrev pub AreWide : ModelView → List (List (Option ℕ)) → Type 0
AreWide m rows = All (λ row. length row ≡ length m.params) rows
