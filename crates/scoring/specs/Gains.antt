-- Scores that are the gains of values in a row. (Lei and others 2007.)
use Rattle.std.specs.Prelude.{◌≡◌, ℕ, ◌+◌, ◌<◌, List, Option, length, slice_index}
use Rattle.uncovered_table.specs.Open.{OpenView, gain}

-- each score is the gain of its value, the first one of this value
abbrev pub AreGains : OpenView → List (Option ℕ) → ℕ → ℕ → List ℕ → Type 0
AreGains table cells p from scores = (i : ℕ) → i < length scores → slice_index scores i ≡ gain table cells p (from + i)
