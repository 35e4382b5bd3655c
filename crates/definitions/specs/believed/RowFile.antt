-- How a row file is read: seed rows, a suite that is measured, or a report. (PICT's guide for seed
-- files; the details are this project's rules.)
use Rattle.std.specs.Prelude.{ℕ, ◌-◌, Bool, false, not, ◌||◌, List, [], ◌∷◌, map, length, take, drop, Option, ◌==◌, nat_lt, slice_index_or, if◌then◌else◌, position}
use Rattle.std.specs.List.{filter, list_any, slice_split, range_with_len, prefix_len, suffix_len}
use Rattle.std.specs.Option.{option_map_or}
use Rattle.model_lex.specs.believed.Lines.{numbered_lines}
use Rattle.value_text.specs.believed.Texts.{is_same_text}
use Rattle.cov_model.specs.believed.Sound.{ModelView, param_at}
use Rattle.cov_model.specs.believed.Rows.{is_complete}
use Rattle.cov_model.specs.believed.Valid.{param_numbers}
use Rattle.definitions.specs.believed.Report.{printed}

-- a text without spaces at its start
abbrev pub without_first_spaces : List ℕ → List ℕ
without_first_spaces text = drop (prefix_len (λ byte. byte == 32) text) text

-- a text without spaces at its end
abbrev pub without_last_spaces : List ℕ → List ℕ
without_last_spaces text = take (length text - suffix_len (λ byte. byte == 32) text) text

-- a text without spaces at its ends
abbrev pub without_spaces : List ℕ → List ℕ
without_spaces text = without_last_spaces (without_first_spaces text)

-- the cells of a line, parted by tabs
abbrev pub cells_of_line : List ℕ → List (List ℕ)
cells_of_line line = map without_spaces (slice_split (λ byte. byte == 9) line)

-- the lines that have a byte, each with its number from 1
abbrev pub filled_lines : List ℕ → List (ℕ × List ℕ)
filled_lines bytes = filter (λ line. nat_lt 0 (length line.1)) (numbered_lines bytes)

-- the parameter that a header cell names
abbrev pub named_param : ModelView → List ℕ → Option ℕ
named_param m cell = position (λ param. is_same_text m.fold param.name cell) m.params

-- the value of a parameter of which a cell is the printed text of a name
abbrev pub named_value : ModelView → ℕ → List ℕ → Option ℕ
named_value m p cell = position (λ value. list_any (λ name. is_same_text m.fold (printed m value name) cell) value.names) (param_at m.params p).values

-- the columns of a header that name the parameter
abbrev pub columns_of : ModelView → List (List ℕ) → ℕ → List ℕ
columns_of m header p = filter (λ column. option_map_or (λ q. q == p) (named_param m (slice_index_or header column [])) false) (range_with_len 0 (length header))

-- the cell of a parameter in a line, empty where the parameter has no column or the line ends before it
abbrev pub cell_at : List (List ℕ) → List ℕ → List ℕ
cell_at cells [] = []
cell_at cells (column ∷ columns) = slice_index_or cells column []

-- the partial row that a line gives under a header
abbrev pub row_of_line : ModelView → List (List ℕ) → List ℕ → List (Option ℕ)
row_of_line m header line = map (λ p. named_value m p (cell_at (cells_of_line line) (columns_of m header p))) (param_numbers m)

-- whether a header can't be used for a whole suite: a parameter has two columns, or none
abbrev pub is_bad_header : ModelView → List (List ℕ) → Bool
is_bad_header m header = list_any (λ p. not (length (columns_of m header p) == 1)) (param_numbers m)

-- the partial rows that lines hold as a suite, of which the first is the header; none where there is no
-- header, where a parameter has two columns or none, or where a line has more cells than the header
abbrev pub rows_of_lines : ModelView → List (ℕ × List ℕ) → List (List (Option ℕ))
rows_of_lines m [] = []
rows_of_lines m (header ∷ lines) =
    let columns = cells_of_line header.1 in
    if is_bad_header m columns || list_any (λ line. nat_lt (length columns) (length (cells_of_line line.1))) lines then []
    else map (λ line. row_of_line m columns line.1) lines

-- the partial rows that the bytes hold as a suite
abbrev pub suite_rows : ModelView → List ℕ → List (List (Option ℕ))
suite_rows m bytes = rows_of_lines m (filled_lines bytes)

-- the complete rows that a report's bytes hold
abbrev pub rows_of : ModelView → List ℕ → List (List (Option ℕ))
rows_of m bytes = filter is_complete (suite_rows m bytes)
