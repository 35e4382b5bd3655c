-- The lines of a row file one after another, and what a cell says under its column. (How this program reads a
-- row file; no public clause speaks of it.)
use Rattle.std.specs.Prelude.{◌≡◌, ℕ, ◌<◌, ◌≤◌, Bool, ◌&&◌, not, List, filter, length, Option, Some, None, Result, Ok, Err, is_none, ◌==◌, nat_lt, slice_set, IfSome, false}
use Rattle.std.specs.List.{enumerate_from}
use Rattle.std.specs.Option.{option_map_or}
use Rattle.model_lex.specs.believed.Lines.{file_lines}
use Rattle.cov_model.specs.believed.Sound.{ModelView}
use Rattle.definitions.specs.believed.RowFile.{named_value}
use Rattle.definitions.specs.believed.RowReading as defined
use Rattle.definitions.specs.believed.RowReading.{column_count}
use Rattle.row_text.specs.Readings.{fault_of}
use Rattle.row_text.specs.declared.filled_lines.FilledLine.{FilledLine}
use Rattle.row_text.specs.declared.rows_fault.RowsFault.{RowsFault}

-- a line with its number
abbrev pub line_seen : FilledLine → ℕ × List ℕ
line_seen line = (line.number, line.text.now)

-- the lines of bytes that have a byte, where the first line has this number
abbrev pub filled_from : ℕ → List ℕ → List (ℕ × List ℕ)
filled_from number bytes = filter (λ line. nat_lt 0 (length line.1)) (enumerate_from number (file_lines bytes))

-- a partial row with the value that a cell gives a parameter, where it gives one
abbrev pub with_given : List (Option ℕ) → ℕ → Option ℕ → List (Option ℕ)
with_given row p None = row
with_given row p (Some v) = slice_set row p (Some v)

-- a partial row with what a cell gives under its column, which is of this parameter
abbrev pub with_cell : ModelView → Option ℕ → List ℕ → List (Option ℕ) → List (Option ℕ)
with_cell m None cell row = row
with_cell m (Some p) cell row = with_given row p (named_value m p cell)

-- whether a cell isn't empty and names no value of the parameter of its column
abbrev pub is_unknown_cell : ModelView → Option ℕ → List ℕ → Bool
is_unknown_cell m column cell = not (length cell == 0) && option_map_or (λ p. is_none (named_value m p cell)) column false

-- each parameter has one column at most
abbrev pub AreOnce : ModelView → List (List ℕ) → Type 0
AreOnce m header = (p : ℕ) → p < length m.params → column_count m header p ≤ 1

-- what a check says of a fault that is looked for: there is none, or it is this one
abbrev pub Finds : Option defined.RowsFault → Result (Unit {0}) RowsFault → Type 0
Finds fault (Ok done) = fault ≡ None
Finds fault (Err told) = IfSome (fault_of told) (λ given. fault ≡ Some given)
