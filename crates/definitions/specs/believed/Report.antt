-- The text of a report: a line with the names of the parameters, then a line for each row, with one
-- name of each value, cells parted by tabs. The names of a value take turns. (PICT's guide.)
use Rattle.std.specs.Prelude.{ℕ, ◌%◌, List, [], ◌∷◌, ◌++◌, map, length, Option, slice_index_or, count_by, ◌&&◌, ◌==◌, if◌then◌else◌}
use Rattle.std.specs.List.{join_with_byte}
use Rattle.cov_model.specs.declared.parameter.Value.{Value}
use Rattle.cov_model.specs.believed.Sound.{ModelView}
use Rattle.cov_model.specs.believed.Rows.{is_assigned, value_in}
use Rattle.cov_model.specs.believed.Meaning.{value_at}
use Rattle.cov_model.specs.believed.Valid.{param_numbers}

-- a name as it is printed: with the mark before it if its value is negative
abbrev pub printed : ModelView → Value → List ℕ → List ℕ
printed m value name = if value.negative then m.prefix ∷ name else name

-- the printed text of the k-th row, counted from 0, that has the value
abbrev pub printed_turn : ModelView → Value → ℕ → List ℕ
printed_turn m value k = printed m value (slice_index_or value.names (k % length value.names) [])

-- how many of the rows give the parameter the value
abbrev pub times_given : List (List (Option ℕ)) → ℕ → ℕ → ℕ
times_given rows p v = count_by (λ row. is_assigned row p && (value_in row p == v)) rows

-- the cell of a parameter in the line of a row that stands behind the earlier rows
abbrev pub cell_text : ModelView → List (List (Option ℕ)) → List (Option ℕ) → ℕ → List ℕ
cell_text m earlier row p = printed_turn m (value_at m p (value_in row p)) (times_given earlier p (value_in row p))

-- cells as a line: parted by tabs, ended by a line feed
abbrev pub line_of_cells : List (List ℕ) → List ℕ
line_of_cells cells = join_with_byte 9 cells ++ 10 ∷ []

-- the line with the names of the parameters
abbrev pub header_line : ModelView → List ℕ
header_line m = line_of_cells (map (λ param. param.name) m.params)

-- the line of a row behind the earlier ones
abbrev pub row_line : ModelView → List (List (Option ℕ)) → List (Option ℕ) → List ℕ
row_line m earlier row = line_of_cells (map (cell_text m earlier row) (param_numbers m))

-- the lines of rows behind the earlier ones
abbrev pub row_lines : ModelView → List (List (Option ℕ)) → List (List (Option ℕ)) → List ℕ
row_lines m earlier [] = []
row_lines m earlier (row ∷ rows) = row_line m earlier row ++ row_lines m (earlier ++ row ∷ []) rows

-- the report of a list of rows
abbrev pub report_text : ModelView → List (List (Option ℕ)) → List ℕ
report_text m rows = header_line m ++ row_lines m [] rows
