-- A report is read as a suite: its rows in order, each on its line, and no note.
use Rattle.std.proofs.Common.{◌≡◌, ℕ, suc, ◌+◌, ◌<◌, ◌≤◌, true, false, List, [], ◌∷◌, ◌++◌, map, filter, length, get_or, All}
use Rattle.std.proofs.Common.{Option, None, Ok, is_none, nat_lt, not, ◌==◌, ◌∙◌, sym, ap, ap₂, refl, arith, le-ltb, zero-add}
use Rattle.std.specs.List.{enumerate_from, list_any, range_with_len}
use Rattle.std.specs.Option.{option_map, option_map_or}
use Rattle.std.proofs.lemmas.Bool.{cond-false, and_right}
use Rattle.std.proofs.lemmas.List.{length-map, get_or_default}
use Rattle.std.proofs.lemmas.List.Elements.{All-head, All-tail}
use Rattle.std.proofs.lemmas.List.Folds.{list_any_none}
use Rattle.std.proofs.lemmas.List.FromFn.{length-enumerate_from, length-map-range_with_len, get_or-map-range_with_len}
use Rattle.cov_model.specs.believed.Sound.{ModelView, IsSound}
use Rattle.cov_model.specs.believed.Valid.{is_row, param_numbers}
use Rattle.definitions.specs.believed.Limits.{Rows, most_counted}
use Rattle.definitions.specs.believed.Report.{cell_text}
use Rattle.definitions.specs.believed.RowFile.{cells_of_line, named_param, named_value, row_of_line}
use Rattle.definitions.specs.believed.RowReading.{RowNote, UnknownColumn, UnknownValue, Missing, Width, Suite, column_count, twice_fault, missing_fault, count_fault, width_fault}
use Rattle.definitions.specs.believed.RowReading.{first_fault, column_notes, is_unknown, value_notes, notes_under, read_under, read_numbered, unless_fault}
use Rattle.definitions.specs.RowReading.{notes_of_lines}
use Rattle.definitions.specs.Laws.{ReportsReadBack, ReportsAreRead}
use Rattle.definitions.proofs.Cells.{joined, cells_of_line-joined}
use Rattle.definitions.proofs.ReadRow.{header, header_row, columns_of-header, named_param-header, each_param, row_cells, row_cells_row, cell_text_cell, row_given, row_of_line-joined}
use Rattle.definitions.proofs.ReadBack.{table, lines_of, filled_lines-report, each_line, is_wide, row_fits, read_back}
use Rattle.definitions.proofs.Nothing.{no_first, nothing_kept, nothing_joined}
use Rattle.value_text.proofs.ListLemmas.{nothing_found}

length-table : (m : ModelView) (earlier rows : List (List (Option ℕ))) → length (table m earlier rows) ≡ length rows
length-table m earlier [] = refl
length-table m earlier (row ∷ rows) = ap suc (length-table m (earlier ++ row ∷ []) rows)

module _ (m : ModelView) (sound : IsSound m) where
  -- each parameter has one column, no row is too wide, and there are not too many
  no_fault : (rows : List (List (Option ℕ))) → All (λ row. is_row m row ≡ true) rows → length rows ≤ most_counted Rows
      → first_fault m Suite 1 (header m) (lines_of m rows) ≡ None
  no_fault rows are few =
      let columns = λ (p : ℕ) (within : p < length m.params). ap length (columns_of-header m sound p within) in
      let twice : twice_fault m 1 (header m) ≡ None =
      cond-false (list_any (λ p. nat_lt 1 (column_count m (header m) p)) (param_numbers m)) _ _
      (list_any_none (λ p. nat_lt 1 (column_count m (header m) p)) (param_numbers m)
      (each_param m (λ p. nat_lt 1 (column_count m (header m) p) ≡ false) (λ p within. ap (λ n. nat_lt 1 n) (columns p within)))) in
      let missing : missing_fault m Suite (header m) ≡ None =
      ap (option_map Missing) (nothing_found (λ p. column_count m (header m) p == 0) (param_numbers m)
      (each_param m (λ p. (column_count m (header m) p == 0) ≡ false) (λ p within. ap (λ n. n == 0) (columns p within)))) in
      let many = length-enumerate_from 2 (map joined (table m [] rows)) ∙ length-map (table m [] rows) joined ∙ length-table m [] rows in
      let count : count_fault (length (lines_of m rows)) ≡ None =
      cond-false (nat_lt (most_counted Rows) (length (lines_of m rows))) _ _ (le-ltb _ _ (omega (arith, few, many))) in
      let width : width_fault (header m) (lines_of m rows) ≡ None =
      ap (option_map (λ line. Width line.0)) (nothing_found (is_wide m) (lines_of m rows)
      (each_line m (λ line. is_wide m line ≡ false) (λ n earlier row is. row_fits m sound earlier row is) 2 [] rows are)) in
      no_first _ _ twice (no_first _ _ missing (no_first _ _ count width))

  -- each cell of the header names a parameter, and each cell of a row a value
  no_column_note : column_notes m 1 (header m) ≡ []
  no_column_note =
      ap (map (λ cell. (1, UnknownColumn))) (nothing_kept (λ cell. is_none (named_param m cell)) (header m) (λ p d within.
      let inside : p < length m.params = omega (arith, within, length-map m.params (λ param. param.name)) in
      ap (λ cell. is_none (named_param m cell)) (get_or_default (header m) p d [] within) ∙ ap is_none (named_param-header m sound p inside)))

  known : (earlier : List (List (Option ℕ))) (row : List (Option ℕ)) → is_row m row ≡ true → (p : ℕ) → p < length m.params
      → is_unknown m (header m) (row_cells m earlier row) p ≡ false
  known earlier row is p within =
      let cell = get_or (row_cells m earlier row) p [] in
      let own : cell ≡ cell_text m earlier row p = get_or-map-range_with_len (cell_text m earlier row) 0 (length m.params) p p [] within (zero-add p) in
      and_right (not (length cell == 0)) _
      (ap (λ found. option_map_or (λ q. is_none (named_value m q cell)) found false) (named_param-header m sound p within)
      ∙ ap is_none (ap (named_value m p) own ∙ (cell_text_cell m sound earlier row is p within).value ∙ sym (row_given m row is p within).cell))

  no_value_note : (n : ℕ) (earlier : List (List (Option ℕ))) (row : List (Option ℕ)) → is_row m row ≡ true
      → value_notes m (header m) (n, joined (row_cells m earlier row)) ≡ []
  no_value_note n earlier row is =
      let cells = row_cells_row m sound earlier row is in
      let note : ℕ → ℕ × RowNote = λ column. (n, UnknownValue) in
      let notes = λ (cells : List (List ℕ)) (count : ℕ). map note (filter (is_unknown m (header m) cells) (range_with_len 0 count)) in
      ap (λ cells. notes cells (length cells)) (cells_of_line-joined (row_cells m earlier row) cells.some cells.cells)
      ∙ ap (notes (row_cells m earlier row)) (length-map-range_with_len (cell_text m earlier row) 0 (length m.params))
      ∙ ap (map note) (nothing_kept (is_unknown m (header m) (row_cells m earlier row)) (param_numbers m)
      (each_param m (λ p. is_unknown m (header m) (row_cells m earlier row) p ≡ false) (known earlier row is)))

  no_notes : (rows : List (List (Option ℕ))) → All (λ row. is_row m row ≡ true) rows → notes_under m 1 (header m) (lines_of m rows) ≡ []
  no_notes rows are =
      ap₂ (λ first rest. first ++ rest) no_column_note
      (nothing_joined (value_notes m (header m)) (lines_of m rows) (each_line m (λ line. value_notes m (header m) line ≡ []) no_value_note 2 [] rows are))

  -- the lines of rows are read as the rows, each with its number
  rows_read : (n : ℕ) (earlier rows : List (List (Option ℕ))) → All (λ row. is_row m row ≡ true) rows
      → map (λ line. (line.0, row_of_line m (header m) line.1)) (enumerate_from n (map joined (table m earlier rows))) ≡ enumerate_from n rows
  rows_read n earlier [] are = refl
  rows_read n earlier (row ∷ rows) are =
      ap₂ (λ first rest. (n, first) ∷ rest) (row_of_line-joined m sound earlier row (All-head (λ row. is_row m row ≡ true) row rows are))
      (rows_read (n + 1) (earlier ++ row ∷ []) rows (All-tail (λ row. is_row m row ≡ true) row rows are))

  -- the header is read as it is
  header_read : cells_of_line (joined (header m)) ≡ header m
  header_read = cells_of_line-joined (header m) (header_row m sound).some (header_row m sound).cells

pub reports_read_back : ReportsReadBack
reports_read_back m rows sound are = (
  read_back m rows sound are,
  ap (notes_of_lines m) (filled_lines-report m rows sound are)
      ∙ ap (λ columns. notes_under m 1 columns (lines_of m rows)) (header_read m sound) ∙ no_notes m sound rows are,
)

pub reports_are_read : ReportsAreRead
reports_are_read m rows sound are few =
    let lines = lines_of m rows in
    ap (read_numbered m Suite) (filled_lines-report m rows sound are)
    ∙ ap (λ columns. unless_fault (first_fault m Suite 1 columns lines) (read_under m 1 columns lines)) (header_read m sound)
    ∙ ap (λ fault. unless_fault fault (read_under m 1 (header m) lines)) (no_fault m sound rows are few)
    ∙ ap₂ (λ read notes. Ok (record { rows = read; notes = notes })) (rows_read m sound 2 [] rows are) (no_notes m sound rows are)
