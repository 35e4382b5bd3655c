-- Reading a report gives its rows.
use Rattle.std.proofs.Common.{◌≡◌, ℕ, ◌+◌, ◌<◌, true, false, List, [], ◌∷◌, ◌++◌, map, filter, length, All, Option, nat_lt}
use Rattle.std.proofs.Common.{nat_eq, refl, ap, ap₂, ◌∙◌, arith, le-ltb, ◌||◌, not, ◌==◌, Bool, append_assoc, if◌then◌else◌}
use Rattle.std.specs.List.{list_any, enumerate_from, starts_with}
use Rattle.std.proofs.lemmas.Bool.{cond-false, or_from}
use Rattle.std.proofs.lemmas.List.{length-map}
use Rattle.std.proofs.lemmas.List.Elements.{All-head, All-tail, All-nil, All-cons, All-map, All-weaker}
use Rattle.std.proofs.lemmas.List.FromFn.{length-map-range_with_len}
use Rattle.std.proofs.lemmas.List.Folds.{list_any_none}
use Rattle.value_text.proofs.ListLemmas.{filter_all}
use Rattle.cov_model.specs.believed.Sound.{ModelView, IsSound}
use Rattle.cov_model.specs.believed.Rows.{is_complete}
use Rattle.cov_model.specs.believed.Valid.{is_row, param_numbers}
use Rattle.cov_model.specs.believed.Names.{is_name}
use Rattle.definitions.specs.believed.Report.{report_text, row_lines, header_line, line_of_cells, cell_text}
use Rattle.definitions.specs.believed.RowFile.{filled_lines, suite_rows, rows_of, rows_of_lines, row_of_line, is_bad_header, cells_of_line, columns_of}
use Rattle.model_lex.specs.believed.Lines.{without_mark, byte_order_mark, file_lines}
use Rattle.definitions.proofs.Cells.{IsRow, joined, text_of, file_lines-text_of, numbered_all, joined_some, cells_of_line-joined}
use Rattle.definitions.proofs.Names.{name_unmarked}
use Rattle.definitions.proofs.ReadRow.{header, columns_of-header, header_row, row_cells, row_cells_row, row_of_line-joined, each_param, complete_row}

-- the cells of the lines of rows behind the earlier ones
abbrev pub table : ModelView → List (List (Option ℕ)) → List (List (Option ℕ)) → List (List (List ℕ))
table m earlier [] = []
table m earlier (row ∷ rows) = row_cells m earlier row ∷ table m (earlier ++ row ∷ []) rows

row_lines-table : (m : ModelView) (earlier rows : List (List (Option ℕ))) → row_lines m earlier rows ≡ text_of (table m earlier rows)
row_lines-table m earlier [] = refl
row_lines-table m earlier (row ∷ rows) = ap (λ text. joined (row_cells m earlier row) ++ 10 ∷ [] ++ text) (row_lines-table m (earlier ++ row ∷ []) rows)

table_rows : (m : ModelView) → IsSound m → (earlier rows : List (List (Option ℕ))) → All (λ row. is_row m row ≡ true) rows → All IsRow (table m earlier rows)
table_rows m sound earlier [] are = All-nil IsRow
table_rows m sound earlier (row ∷ rows) are =
    All-cons IsRow (row_cells m earlier row) (table m (earlier ++ row ∷ []) rows)
    (row_cells_row m sound earlier row (All-head (λ row. is_row m row ≡ true) row rows are))
    (table_rows m sound (earlier ++ row ∷ []) rows (All-tail (λ row. is_row m row ≡ true) row rows are))

-- the lines of rows are read as the rows
lines_read : (m : ModelView) → IsSound m → (n : ℕ) (earlier rows : List (List (Option ℕ))) → All (λ row. is_row m row ≡ true) rows
    → map (λ line. row_of_line m (header m) line.1) (enumerate_from n (map joined (table m earlier rows))) ≡ rows
lines_read m sound n earlier [] are = refl
lines_read m sound n earlier (row ∷ rows) are =
    ap₂ (λ first rest. first ∷ rest)
    (row_of_line-joined m sound earlier row (All-head (λ row. is_row m row ≡ true) row rows are))
    (lines_read m sound (n + 1) (earlier ++ row ∷ []) rows (All-tail (λ row. is_row m row ≡ true) row rows are))

-- a line has more cells than the header
abbrev pub is_wide : ModelView → ℕ × List ℕ → Bool
is_wide m line = nat_lt (length (header m)) (length (cells_of_line line.1))

-- none of them has
pub row_fits : (m : ModelView) → IsSound m → (earlier : List (List (Option ℕ))) (row : List (Option ℕ)) → is_row m row ≡ true
    → nat_lt (length (header m)) (length (cells_of_line (joined (row_cells m earlier row)))) ≡ false
row_fits m sound earlier row is =
    let cells = row_cells_row m sound earlier row is in
    let read = ap length (cells_of_line-joined (row_cells m earlier row) cells.some cells.cells) in
    let names = length-map m.params (λ param. param.name) in
    let size = length-map-range_with_len (cell_text m earlier row) 0 (length m.params) in
    le-ltb _ _ (omega arith)

-- what holds of the line of each row holds of the lines of all rows
pub each_line : (m : ModelView) (P : ℕ × List ℕ → Type 0)
    → ((n : ℕ) (earlier : List (List (Option ℕ))) (row : List (Option ℕ)) → is_row m row ≡ true → P (n, joined (row_cells m earlier row)))
    → (n : ℕ) (earlier rows : List (List (Option ℕ))) → All (λ row. is_row m row ≡ true) rows → All P (enumerate_from n (map joined (table m earlier rows)))
each_line m P holds n earlier [] are = All-nil P
each_line m P holds n earlier (row ∷ rows) are =
    All-cons P (n, joined (row_cells m earlier row)) (enumerate_from (n + 1) (map joined (table m (earlier ++ row ∷ []) rows)))
    (holds n earlier row (All-head (λ row. is_row m row ≡ true) row rows are))
    (each_line m P holds (n + 1) (earlier ++ row ∷ []) rows (All-tail (λ row. is_row m row ≡ true) row rows are))

-- the names of the parameters are a header
good_header : (m : ModelView) → IsSound m → is_bad_header m (header m) ≡ false
good_header m sound =
    list_any_none (λ p. not (length (columns_of m (header m) p) == 1)) (param_numbers m)
    (each_param m (λ p. not (length (columns_of m (header m) p) == 1) ≡ false) (λ p within. ap (λ columns. not (length columns == 1)) (columns_of-header m sound p within)))

-- a text that begins with a line of names doesn't begin with a byte-order mark
line_unmarked : (names : List (List ℕ)) (rest : List ℕ) → 0 < length names → All (λ name. is_name name ≡ true) names
    → starts_with nat_eq (line_of_cells names ++ rest) byte_order_mark ≡ false
line_unmarked [] rest some are = absurd (omega arith)
line_unmarked (name ∷ []) rest some are =
    rw (append_assoc name (10 ∷ []) rest) (name_unmarked name 10 rest (omega arith) (All-head (λ name. is_name name ≡ true) name [] are))
line_unmarked (name ∷ next ∷ names) rest some are =
    let text = joined (next ∷ names) in
    rw (append_assoc (name ++ 9 ∷ text) (10 ∷ []) rest, append_assoc name (9 ∷ text) (10 ∷ rest))
    (name_unmarked name 9 (text ++ 10 ∷ rest) (omega arith) (All-head (λ name. is_name name ≡ true) name (next ∷ names) are))

-- nor does a report
without_mark-report : (m : ModelView) → IsSound m → (rows : List (List (Option ℕ))) → without_mark (report_text m rows) ≡ report_text m rows
without_mark-report m sound rows =
    cond-false (starts_with nat_eq (report_text m rows) byte_order_mark) _ _
    (line_unmarked (header m) (row_lines m [] rows) (header_row m sound).some
    (All-map (λ name. is_name name ≡ true) (λ param. param.name) m.params (λ k d within. (sound.params k d within).named)))

-- the partial rows that lines give under a header
abbrev under : ModelView → List (ℕ × List ℕ) → List (List ℕ) → List (List (Option ℕ))
under m lines columns =
    if is_bad_header m columns || list_any (λ line. nat_lt (length columns) (length (cells_of_line line.1))) lines then []
    else map (λ line. row_of_line m columns line.1) lines

-- the lines of a table that have a byte, each with its number
abbrev numbered : List (List ℕ) → List (ℕ × List ℕ)
numbered lines = filter (λ line. nat_lt 0 (length line.1)) (enumerate_from 1 lines)

-- the lines of a report behind its header
abbrev pub lines_of : ModelView → List (List (Option ℕ)) → List (ℕ × List ℕ)
lines_of m rows = enumerate_from 2 (map joined (table m [] rows))

-- a report has the header on its first line, and a line for each row
pub filled_lines-report : (m : ModelView) (rows : List (List (Option ℕ))) → IsSound m → All (λ row. is_row m row ≡ true) rows
    → filled_lines (report_text m rows) ≡ (1, joined (header m)) ∷ lines_of m rows
filled_lines-report m rows sound are =
    let cells : All IsRow (header m ∷ table m [] rows) = All-cons IsRow (header m) (table m [] rows) (header_row m sound) (table_rows m sound [] rows are) in
    let some : All (λ line. 0 < length line) (map joined (header m ∷ table m [] rows)) =
    All-map (λ line. 0 < length line) joined (header m ∷ table m [] rows)
    (All-weaker IsRow (λ row. 0 < length (joined row)) joined_some (header m ∷ table m [] rows) cells) in
    ap (λ text. numbered (file_lines text)) (without_mark-report m sound rows ∙ ap (λ text. header_line m ++ text) (row_lines-table m [] rows))
    ∙ ap numbered (file_lines-text_of (header m ∷ table m [] rows) cells)
    ∙ numbered_all 1 (map joined (header m ∷ table m [] rows)) some

-- every row of a report is read
pub read_suite : (m : ModelView) (rows : List (List (Option ℕ))) → IsSound m → All (λ row. is_row m row ≡ true) rows → suite_rows m (report_text m rows) ≡ rows
read_suite m rows sound are =
    let lines = lines_of m rows in
    ap (rows_of_lines m) (filled_lines-report m rows sound are)
    ∙ ap (under m lines) (cells_of_line-joined (header m) (header_row m sound).some (header_row m sound).cells)
    ∙ cond-false (is_bad_header m (header m) || list_any (is_wide m) lines) _ _ (or_from _ _ (good_header m sound)
    (list_any_none (is_wide m) lines (each_line m (λ line. is_wide m line ≡ false) (λ n earlier row is. row_fits m sound earlier row is) 2 [] rows are)))
    ∙ lines_read m sound 2 [] rows are

-- reading a report gives its rows
pub read_back : (m : ModelView) (rows : List (List (Option ℕ))) → IsSound m → All (λ row. is_row m row ≡ true) rows → rows_of m (report_text m rows) ≡ rows
read_back m rows sound are =
    ap (filter is_complete) (read_suite m rows sound are)
    ∙ filter_all is_complete rows (All-weaker (λ row. is_row m row ≡ true) (λ row. is_complete row ≡ true) (complete_row m) rows are)
