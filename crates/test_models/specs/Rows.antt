-- Partial rows that tests make.
use Rattle.std.specs.Prelude.{◌≡◌, ℕ, ◌<◌, false, Option, IfSome, length}
use Rattle.cov_model.specs.believed.Sound.{ModelView, param_at}
use Rattle.cov_model.specs.believed.Meaning.{value_at}

-- the value of a parameter, where it has one, exists and isn't negative
abbrev pub IsPositiveCell : ModelView → ℕ → Option ℕ → Type 0
IsPositiveCell m p cell = IfSome cell (λ v. (v < length (param_at m.params p).values) × ((value_at m p v).negative ≡ false))
