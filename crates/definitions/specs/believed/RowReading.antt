-- What a row file holds, or why it is refused: the rows with their lines and notes, in two modes.
-- (PICT's guide for seed files; the faults and their order are this project's rules.)
use Rattle.std.specs.Prelude.{ℕ, Bool, false, ◌&&◌, not, List, [], ◌∷◌, ◌++◌, map, filter, flat_map, length, find, Option}
use Rattle.std.specs.Prelude.{Some, None, Result, Ok, Err, is_none, option_map, ◌==◌, nat_lt, slice_index_or, if◌then◌else◌}
use Rattle.std.specs.List.{list_any, range_with_len}
use Rattle.std.specs.Option.{option_or, option_map_or}
use Rattle.cov_model.specs.believed.Sound.{ModelView}
use Rattle.cov_model.specs.believed.Valid.{param_numbers}
use Rattle.definitions.specs.believed.Limits.{Rows, most_counted}
use Rattle.definitions.specs.believed.RowFile.{filled_lines, cells_of_line, columns_of, named_param, named_value, row_of_line}

-- seed rows, which may leave parameters out, or a whole suite, in which every parameter has a column
pub data RowMode : Type 0 where
  Seed : RowMode
  Suite : RowMode

-- a column that no parameter has, or a cell that no value of its column's parameter has
pub data RowNote : Type 0 where
  UnknownColumn : RowNote
  UnknownValue : RowNote

-- no header; on the header's line a parameter with two columns; a parameter without a column; too many
-- rows, with their number; a line with more cells than the header
pub data RowsFault : Type 0 where
  NoHeader : RowsFault
  Twice : ℕ → RowsFault
  Missing : ℕ → RowsFault
  TooManyRows : ℕ → RowsFault
  Width : ℕ → RowsFault

-- the partial rows of a row file and the notes on it, each with the number of its line
pub record RowReading : Type 0 where
  pub rows : List (ℕ × List (Option ℕ))
  pub notes : List (ℕ × RowNote)

-- how many columns of the header a parameter has
abbrev pub column_count : ModelView → List (List ℕ) → ℕ → ℕ
column_count m header p = length (columns_of m header p)

abbrev pub twice_fault : ModelView → ℕ → List (List ℕ) → Option RowsFault
twice_fault m line header = if list_any (λ p. nat_lt 1 (column_count m header p)) (param_numbers m) then Some (Twice line) else None

-- the least parameter without a column; seed rows need none
abbrev pub missing_fault : ModelView → RowMode → List (List ℕ) → Option RowsFault
missing_fault m Seed header = None
missing_fault m Suite header = option_map Missing (find (λ p. column_count m header p == 0) (param_numbers m))

-- more rows than the limit, 2^20
abbrev pub count_fault : ℕ → Option RowsFault
count_fault count = if nat_lt (most_counted Rows) count then Some (TooManyRows count) else None

-- the first line with more cells than the header
abbrev pub width_fault : List (List ℕ) → List (ℕ × List ℕ) → Option RowsFault
width_fault header lines = option_map (λ line. Width line.0) (find (λ line. nat_lt (length header) (length (cells_of_line line.1))) lines)

-- the first fault, in the order in which they are looked for
abbrev pub first_fault : ModelView → RowMode → ℕ → List (List ℕ) → List (ℕ × List ℕ) → Option RowsFault
first_fault m mode line header lines =
    option_or (twice_fault m line header) (option_or (missing_fault m mode header) (option_or (count_fault (length lines)) (width_fault header lines)))

-- a note for each cell of the header that names no parameter, also an empty one
abbrev pub column_notes : ModelView → ℕ → List (List ℕ) → List (ℕ × RowNote)
column_notes m line header = map (λ cell. (line, UnknownColumn)) (filter (λ cell. is_none (named_param m cell)) header)

-- a cell that isn't empty, in the column of a parameter of which it names no value
abbrev pub is_unknown : ModelView → List (List ℕ) → List (List ℕ) → ℕ → Bool
is_unknown m header cells column =
    let cell = slice_index_or cells column [] in
    not (length cell == 0) && option_map_or (λ p. is_none (named_value m p cell)) (named_param m (slice_index_or header column [])) false

-- a note for each such cell of a line, by its place
abbrev pub value_notes : ModelView → List (List ℕ) → ℕ × List ℕ → List (ℕ × RowNote)
value_notes m header line =
    let cells = cells_of_line line.1 in
    map (λ column. (line.0, UnknownValue)) (filter (is_unknown m header cells) (range_with_len 0 (length cells)))

-- the notes on a header and on the lines under it
abbrev pub notes_under : ModelView → ℕ → List (List ℕ) → List (ℕ × List ℕ) → List (ℕ × RowNote)
notes_under m line header lines = column_notes m line header ++ flat_map (value_notes m header) lines

-- the rows and the notes of lines under a header
abbrev pub read_under : ModelView → ℕ → List (List ℕ) → List (ℕ × List ℕ) → RowReading
read_under m line header lines = record {
  rows = map (λ line. (line.0, row_of_line m header line.1)) lines;
  notes = notes_under m line header lines;
}

-- the reading, if there is no fault
abbrev pub unless_fault : Option RowsFault → RowReading → Result RowReading RowsFault
unless_fault None reading = Ok reading
unless_fault (Some fault) reading = Err fault

-- the reading of the lines that have a byte, of which the first is the header
abbrev pub read_numbered : ModelView → RowMode → List (ℕ × List ℕ) → Result RowReading RowsFault
read_numbered m mode [] = Err NoHeader
read_numbered m mode (first ∷ lines) =
    let header = cells_of_line first.1 in
    unless_fault (first_fault m mode first.0 header lines) (read_under m first.0 header lines)

-- the reading of a row file's bytes
abbrev pub read_rows : ModelView → RowMode → List ℕ → Result RowReading RowsFault
read_rows m mode bytes = read_numbered m mode (filled_lines bytes)
