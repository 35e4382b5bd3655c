-- What is wrong or odd about a model. (This project's rule.)
use Rattle.cov_model.specs.declared.slice.Slice.TheVariants as slices
use Rattle.cov_model.specs.believed.Sound.{ModelView}
use Rattle.model_lint.specs.believed.Tests.{IsConflict, no_values}
use Rattle.model_lint.specs.Unused.{IsExplained as IsUnusedExplained, value_of}
use Rattle.model_findings.specs.declared.finding.Finding.{Finding}
use Rattle.model_findings.specs.declared.finding.Finding.TheVariants as findings
use Rattle.model_findings.specs.believed.Findings.{Fact, NoTest, ValueInNoTest, UnknownValue, UnknownElement, ConstantComparison, NeverExcludes, PremiseNeverHolds}

abbrev pub fact_of : Finding → Fact
fact_of (findings.NoTest constraints) = NoTest
fact_of (findings.ValueInNoTest one) = ValueInNoTest (value_of one)
fact_of (findings.UnknownValue number term) = UnknownValue number term
fact_of (findings.UnknownElement number term element) = UnknownElement number term element
fact_of (findings.ConstantComparison number term) = ConstantComparison number term
fact_of (findings.NeverExcludes number) = NeverExcludes number
fact_of (findings.PremiseNeverHolds number) = PremiseNeverHolds number

-- no row of valid values, or none of its slice with the value, meets the constraints that are told with a finding, and
-- none of them can be left out
abbrev pub IsExplained : ModelView → Finding → Type 0
IsExplained m (findings.NoTest constraints) = IsConflict m slices.Positive (no_values m) constraints
IsExplained m (findings.ValueInNoTest one) = IsUnusedExplained m one
IsExplained m (findings.UnknownValue number term) = Unit {0}
IsExplained m (findings.UnknownElement number term element) = Unit {0}
IsExplained m (findings.ConstantComparison number term) = Unit {0}
IsExplained m (findings.NeverExcludes number) = Unit {0}
IsExplained m (findings.PremiseNeverHolds number) = Unit {0}
