-- What a file of results holds, or why it is refused: a row file in the mode of suites, one column of which says
-- of each row whether its test passed or failed. (This project's rule.)
use Rattle.std.specs.Prelude.{ℕ, Bool, true, false, List, [], ◌∷◌, ◌++◌, map, flat_map, find, position}
use Rattle.std.specs.Prelude.{remove, Option, Some, None, Result, Ok, Err, is_none, option_map, unwrap_or, slice_index_or, if◌then◌else◌, codes}
use Rattle.value_text.specs.believed.Texts.{is_same_text}
use Rattle.cov_model.specs.believed.Sound.{ModelView}
use Rattle.definitions.specs.believed.RowFile.{cells_of_line, filled_lines}
use Rattle.definitions.specs.believed.RowReading as rows
use Rattle.definitions.specs.believed.RowReading.{RowReading, RowsFault, Suite, column_notes, read_rows, value_notes}

-- the rows with their lines and notes, and of each row whether its test failed
pub record ResultReading : Type 0 where
  pub rows : RowReading
  pub failed : List Bool

-- the row file is refused; no result column; a line that says neither that its test passed nor that it failed
pub data ResultsFault : Type 0 where
  Rows : RowsFault → ResultsFault
  NoResult : ResultsFault
  BadResult : ℕ → ResultsFault

-- the result column: the first whose header cell is `:result` under the case rule
abbrev pub result_column : ModelView → List (List ℕ) → Option ℕ
result_column m header = position (λ cell. is_same_text m.fold (codes ":result") cell) header

-- whether a test failed, by the text of a cell, in which case doesn't count
abbrev pub has_failed : List ℕ → Option Bool
has_failed cell = if is_same_text true (codes "pass") cell then Some false else if is_same_text true (codes "fail") cell then Some true else None

-- the same by the cell of a line in the result column, which is empty where the line ends before it
abbrev pub result_of_line : ℕ → List ℕ → Option Bool
result_of_line column line = has_failed (slice_index_or (cells_of_line line) column [])

-- the first line that says neither
abbrev pub result_fault : ℕ → List (ℕ × List ℕ) → Option ResultsFault
result_fault column lines = option_map (λ line. BadResult line.0) (find (λ line. is_none (result_of_line column line.1)) lines)

-- the notes on a header, but for that on its result column, and on the lines under it
abbrev pub notes_beside : ModelView → ℕ → ℕ → List (List ℕ) → List (ℕ × List ℕ) → List (ℕ × rows.RowNote)
notes_beside m column line header lines = column_notes m line (remove header column) ++ flat_map (value_notes m header) lines

-- the results of lines under a header, beside the reading of their rows
abbrev pub results_beside : ModelView → ℕ → ℕ → List (List ℕ) → List (ℕ × List ℕ) → RowReading → ResultReading
results_beside m column line header lines reading = record {
  rows = record { rows = reading.rows; notes = notes_beside m column line header lines };
  failed = map (λ line. unwrap_or (result_of_line column line.1) false) lines;
}

-- the results, if there is no fault
abbrev pub unless_bad : Option ResultsFault → ResultReading → Result ResultReading ResultsFault
unless_bad None reading = Ok reading
unless_bad (Some fault) reading = Err fault

-- the results under a header, whose result column this is
abbrev pub results_under : ModelView → Option ℕ → ℕ → List (List ℕ) → List (ℕ × List ℕ) → RowReading → Result ResultReading ResultsFault
results_under m None line header lines reading = Err NoResult
results_under m (Some column) line header lines reading = unless_bad (result_fault column lines) (results_beside m column line header lines reading)

-- the results of the lines that have a byte, of which the first is the header, once their rows are read
abbrev pub results_numbered : ModelView → List (ℕ × List ℕ) → Result RowReading RowsFault → Result ResultReading ResultsFault
results_numbered m lines (Err fault) = Err (Rows fault)
results_numbered m [] (Ok reading) = Err NoResult
results_numbered m (first ∷ lines) (Ok reading) =
    let header = cells_of_line first.1 in
    results_under m (result_column m header) first.0 header lines reading

-- the reading of the bytes of a file of results
abbrev pub read_results : ModelView → List ℕ → Result ResultReading ResultsFault
read_results m bytes = results_numbered m (filled_lines bytes) (read_rows m Suite bytes)
