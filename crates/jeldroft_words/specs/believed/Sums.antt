-- What is told of fewer tests. (This project's rule.)
use Rattle.std.specs.Prelude.{ℕ, ◌==◌, ◌++◌, List, codes, decimal, if◌then◌else◌}
use Rattle.outside_io.specs.believed.Puts.{Puts}
use Rattle.outside_io.specs.believed.Seen.{SinkSeen}
use Rattle.outside_io.specs.declared.answers.WriteAnswer.{WriteAnswer}

-- the line that sums up: so many tests in place of so many, and how many any suite with this coverage needs at least
abbrev pub met_line : ℕ → ℕ → List ℕ
met_line tests given = decimal tests ++ (codes " tests in place of " ++ (decimal given ++ codes "; no suite with this coverage is shorter\n"))

abbrev pub open_line : ℕ → ℕ → ℕ → List ℕ
open_line tests given least =
    decimal tests ++ (codes " tests in place of " ++ (decimal given ++ (codes "; at least " ++ (decimal least ++ codes " are needed for this coverage\n"))))

abbrev pub sum_line : ℕ → ℕ → ℕ → List ℕ
sum_line tests given least = if tests == least then met_line tests given else open_line tests given least

-- a line was the last that was told, whole unless that failed
pub record TellsLast (line : List ℕ) (after : SinkSeen) : Type 0 where
  pub before : SinkSeen
  pub answer : WriteAnswer
  pub puts : Puts answer before after line
