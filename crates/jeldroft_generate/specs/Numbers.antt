-- What is told of the numbers of fewer tests. (This project's rule.)
use Rattle.std.specs.Prelude.{◌≡◌, ⊤, ℕ, List, length, Option, Some, None, IfSome, IsSomeAnd}
use Rattle.outside_io.specs.believed.Seen.{SinkSeen}
use Rattle.cov_model.specs.believed.Sound.{ModelView}
use Rattle.jeldroft_args.specs.declared.shrinking.Shrinking.{Shrinking}
use Rattle.jeldroft_words.specs.believed.Sums.{TellsLast, sum_line}
use Rattle.jeldroft_words.specs.declared.fewer_tests.FewerTests.{FewerTests}
use Rattle.shorter_suites.specs.believed.Bounds.{least_needed}

-- numbers are those of rows in place of those that grew
pub record AreNumbersOf (m : ModelView) (grown rows : List (List (Option ℕ))) (numbers : FewerTests) : Type 0 where
  pub given : numbers.given ≡ length grown
  pub tests : numbers.tests ≡ length rows
  pub least : numbers.least ≡ least_needed m grown

-- they are, where fewer tests are asked for
abbrev pub AreNumbersFor : Option Shrinking → ModelView → List (List (Option ℕ)) → List (List (Option ℕ)) → Option FewerTests → Type 0
AreNumbersFor None m grown rows numbers = ⊤
AreNumbersFor (Some shrinking) m grown rows numbers = IsSomeAnd numbers (AreNumbersOf m grown rows)

-- the last line that was told sums up fewer tests, if there are some
abbrev pub TellsNumbers : Option FewerTests → SinkSeen → Type 0
TellsNumbers numbers told = IfSome numbers (λ n. TellsLast (sum_line n.tests n.given n.least) told)
