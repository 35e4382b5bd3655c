-- Values that are told to be in no test. (This project's rule.)
use Rattle.std.specs.Prelude.{ℕ}
use Rattle.cov_model.specs.believed.Sound.{ModelView}
use Rattle.model_lint.specs.declared.finding.UnusedValue.{UnusedValue}
use Rattle.model_lint.specs.believed.Tests.{IsConflict, slice_with, value_alone}

-- the parameter and the value
abbrev pub value_of : UnusedValue → ℕ × ℕ
value_of one = (one.parameter, one.value)

-- the constraints that are told with it can't be met by a row of its slice that has it, and none can be left out
abbrev pub IsExplained : ModelView → UnusedValue → Type 0
IsExplained m one = IsConflict m (slice_with m (value_of one)) (value_alone m (value_of one)) one.constraints
