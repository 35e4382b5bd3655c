-- The text of the report of a suite. (This project's rules.)
use Rattle.std.specs.Prelude.{ℕ, List, [], ◌∷◌, ◌++◌, map}
use Rattle.std.specs.List.{flat_map}
use Rattle.seq_check.specs.believed.Events.{EventsView}
use Rattle.seq_check.specs.believed.OrderReport.{never_line, row_line}
use Rattle.seq_cover.specs.declared.suite.OrderSuite.{OrderSuite}

-- lines, each ended by a line feed
abbrev pub ended_line : List ℕ → List ℕ
ended_line line = line ++ 10 ∷ []

abbrev pub text_of_lines : List (List ℕ) → List ℕ
text_of_lines lines = flat_map ended_line lines

-- the line of each row, then that of each sequence that is set aside
abbrev pub suite_lines : EventsView → OrderSuite → List (List ℕ)
suite_lines e suite = map (row_line e) suite.rows ++ map (λ never. never_line e never.sequence never.cycle) suite.never

abbrev pub report_text : EventsView → OrderSuite → List ℕ
report_text e suite = text_of_lines (suite_lines e suite)
