-- The values that are in no test. (This project's rule.)
use Rattle.std.specs.Prelude.{ℕ, List}
use Rattle.std.specs.List.{filter}
use Rattle.cov_model.specs.believed.Sound.{ModelView}
use Rattle.model_lint.specs.believed.Tests.{is_unused, values_of}

-- the values that are in no test: of a parameter, and of all
abbrev pub unused_in : ModelView → ℕ → List (ℕ × ℕ)
unused_in m p = filter (is_unused m) (values_of m p)
