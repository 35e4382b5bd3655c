-- Cells put into lines and lines into a text are read back: facts on plain lists.
use Rattle.std.proofs.Common.{◌≡◌, ℕ, ◌+◌, ◌-◌, ◌<◌, ◌≤◌, ◌≢◌, false, List, [], ◌∷◌, ◌++◌, map, length, get_or, take, ◌==◌, All, sym, refl}
use Rattle.std.proofs.Common.{ap, ◌∙◌, arith, ne_eqb, eq-eqb, lt-ltb, nat_lt, ◌&&◌, filter, length-append, append_assoc, take_all, flat_map}
use Rattle.std.specs.List.{slice_split, join_with_byte, prefix_len, suffix_len, enumerate_from}
use Rattle.std.proofs.lemmas.List.Splits.{slice_split_none, slice_split_at}
use Rattle.std.proofs.lemmas.List.Elements.{All-head, All-tail, All-weaker, All-nil, All-cons, All-append, All-map}
use Rattle.std.proofs.lemmas.List.Sums.{prefix_len-drop_no, suffix_len-take_no}
use Rattle.std.proofs.lemmas.List.Folds.{map_fixed}
use Rattle.std.proofs.lemmas.Bool.{cond-false, cond-true, and_right}
use Rattle.definitions.specs.believed.Report.{line_of_cells}
use Rattle.definitions.specs.believed.RowFile.{without_spaces, cells_of_line}
use Rattle.model_lex.specs.believed.Lines.{without_return, ended_lines, file_lines}

-- a cell has a byte, no byte below a space, and no space at its ends
pub record IsCell (cell : List ℕ) : Type 0 where
  pub some : 0 < length cell
  pub plain : All (λ byte. 32 ≤ byte) cell
  pub first : get_or cell 0 0 ≢ 32
  pub last : get_or cell (length cell - 1) 0 ≢ 32

-- a cell that is read without its spaces is read as it is
pub without_spaces-cell : (cell : List ℕ) → IsCell cell → without_spaces cell ≡ cell
without_spaces-cell cell is =
    let few : 0 < length cell = is.some in
    let first : prefix_len (λ byte. byte == 32) cell ≡ 0 = prefix_len-drop_no (λ byte. byte == 32) cell 0 0 few (ne_eqb _ _ is.first) in
    let last : suffix_len (λ byte. byte == 32) (take (length cell) cell) ≡ 0 =
    suffix_len-take_no (λ byte. byte == 32) cell (length cell) 0 few (omega arith) (ne_eqb _ _ is.last) in
    let whole : take (length cell) cell ≡ cell = take_all (length cell) cell (omega arith) in
    let none : suffix_len (λ byte. byte == 32) cell ≡ 0 = ap (suffix_len (λ byte. byte == 32)) (sym whole) ∙ last in
    rw first (rw none (take_all (length cell - 0) cell (omega arith)))

-- a byte below a space is no byte of a cell
pub without_byte : (c : ℕ) (cell : List ℕ) → c < 32 → All (λ byte. 32 ≤ byte) cell → All (λ byte. (byte == c) ≡ false) cell
without_byte c cell low plain = All-weaker (λ byte. 32 ≤ byte) (λ byte. (byte == c) ≡ false) (λ byte least. ne_eqb byte c (λ e. omega arith)) cell plain

-- pieces joined by a byte that none of them has are parted again as they were
pub split_joined_by : (c : ℕ) (pieces : List (List ℕ)) → 0 < length pieces → All (λ piece. All (λ byte. (byte == c) ≡ false) piece) pieces
    → slice_split (λ byte. byte == c) (join_with_byte c pieces) ≡ pieces
split_joined_by c [] some are = absurd (omega arith)
split_joined_by c (piece ∷ []) some are =
    slice_split_none (λ byte. byte == c) piece (All-head (λ piece. All (λ byte. (byte == c) ≡ false) piece) piece [] are)
split_joined_by c (piece ∷ next ∷ pieces) some are =
    slice_split_at (λ byte. byte == c) piece c (join_with_byte c (next ∷ pieces))
    (All-head (λ piece. All (λ byte. (byte == c) ≡ false) piece) piece (next ∷ pieces) are) (eq-eqb c c refl)
    ∙ ap (λ rest. piece ∷ rest)
    (split_joined_by c (next ∷ pieces) (omega arith) (All-tail (λ piece. All (λ byte. (byte == c) ≡ false) piece) piece (next ∷ pieces) are))

-- cells parted by tabs
pub split_joined : (cells : List (List ℕ)) → 0 < length cells → All IsCell cells → slice_split (λ byte. byte == 9) (join_with_byte 9 cells) ≡ cells
split_joined cells some are =
    split_joined_by 9 cells some
    (All-weaker IsCell (λ cell. All (λ byte. (byte == 9) ≡ false) cell) (λ cell is. without_byte 9 cell (omega arith) is.plain) cells are)

-- the cells of a line are read back
pub cells_of_line-joined : (cells : List (List ℕ)) → 0 < length cells → All IsCell cells → cells_of_line (join_with_byte 9 cells) ≡ cells
cells_of_line-joined cells some are =
    ap (map without_spaces) (split_joined cells some are) ∙ map_fixed without_spaces cells
    (All-weaker IsCell (λ cell. without_spaces cell ≡ cell) without_spaces-cell cells are)

-- a line as it is read, without the line feed at its end
abbrev pub joined : List (List ℕ) → List ℕ
joined cells = join_with_byte 9 cells

-- a row of cells has a cell
pub record IsRow (row : List (List ℕ)) : Type 0 where
  pub some : 0 < length row
  pub cells : All IsCell row

joined-some : (cell : List ℕ) (cells : List (List ℕ)) → length cell ≤ length (joined (cell ∷ cells))
joined-some cell [] = omega arith
joined-some cell (next ∷ cells) = omega (arith, length-append cell (9 ∷ joined (next ∷ cells)))

-- a line has a byte
pub joined_some : (cells : List (List ℕ)) → IsRow cells → 0 < length (joined cells)
joined_some [] is = absurd (omega (arith, is.some))
joined_some (cell ∷ cells) is = omega (arith, joined-some cell cells, (All-head IsCell cell cells is.cells).some)

-- no byte of a line ends it or is a carriage return
pub joined_plain : (c : ℕ) (cells : List (List ℕ)) → c < 32 → c ≢ 9 → All IsCell cells → All (λ byte. (byte == c) ≡ false) (joined cells)
joined_plain c [] low other are = All-nil (λ byte. (byte == c) ≡ false)
joined_plain c (cell ∷ []) low other are = without_byte c cell low (All-head IsCell cell [] are).plain
joined_plain c (cell ∷ next ∷ cells) low other are =
    All-append (λ byte. (byte == c) ≡ false) cell (9 ∷ joined (next ∷ cells)) (without_byte c cell low (All-head IsCell cell (next ∷ cells) are).plain)
    (All-cons (λ byte. (byte == c) ≡ false) 9 (joined (next ∷ cells)) (ne_eqb 9 c (λ e. other (sym e))) (joined_plain c (next ∷ cells) low other (All-tail IsCell cell (next ∷ cells) are)))

-- a line without its carriage return is the line
pub without_return-joined : (cells : List (List ℕ)) → IsRow cells → without_return (joined cells) ≡ joined cells
without_return-joined cells is =
    let some : 0 < length (joined cells) = joined_some cells is in
    let last : (get_or (joined cells) (length (joined cells) - 1) 0 == 13) ≡ false =
    joined_plain 13 cells (omega arith) (λ e. omega arith) is.cells (length (joined cells) - 1) 0 (omega arith) in
    cond-false (nat_lt 0 (length (joined cells)) && (get_or (joined cells) (length (joined cells) - 1) 0 == 13)) _ _
    (and_right (nat_lt 0 (length (joined cells))) _ last)

-- the text of a table of cells
abbrev pub text_of : List (List (List ℕ)) → List ℕ
text_of rows = flat_map line_of_cells rows

split_text : (rows : List (List (List ℕ))) → All IsRow rows → slice_split (λ byte. byte == 10) (text_of rows) ≡ map joined rows ++ [] ∷ []
split_text [] are = refl
split_text (row ∷ rows) are =
    let plain = joined_plain 10 row (omega arith) (λ e. omega arith) (All-head IsRow row rows are).cells in
    ap (slice_split (λ byte. byte == 10)) (append_assoc (joined row) (10 ∷ []) (text_of rows))
    ∙ slice_split_at (λ byte. byte == 10) (joined row) 10 (text_of rows) plain refl
    ∙ ap (λ rest. joined row ∷ rest) (split_text rows (All-tail IsRow row rows are))

ended_lines-ended : (lines : List (List ℕ)) → ended_lines (lines ++ [] ∷ []) ≡ lines
ended_lines-ended [] = refl
ended_lines-ended (line ∷ []) = refl
ended_lines-ended (line ∷ next ∷ lines) = ap (λ rest. line ∷ rest) (ended_lines-ended (next ∷ lines))

-- the lines of the text of a table
pub file_lines-text_of : (rows : List (List (List ℕ))) → All IsRow rows → file_lines (text_of rows) ≡ map joined rows
file_lines-text_of rows are =
    ap (λ pieces. map without_return (ended_lines pieces)) (split_text rows are)
    ∙ ap (map without_return) (ended_lines-ended (map joined rows))
    ∙ map_fixed without_return (map joined rows)
    (All-map (λ line. without_return line ≡ line) joined rows (All-weaker IsRow (λ cells. without_return (joined cells) ≡ joined cells) without_return-joined rows are))

-- a list without empty lines keeps all its lines
pub numbered_all : (n : ℕ) (lines : List (List ℕ)) → All (λ line. 0 < length line) lines
    → filter (λ line. nat_lt 0 (length line.1)) (enumerate_from n lines) ≡ enumerate_from n lines
numbered_all n [] some = refl
numbered_all n (line ∷ lines) some =
    cond-true (nat_lt 0 (length line)) _ _ (lt-ltb 0 (length line) (All-head (λ line. 0 < length line) line lines some))
    ∙ ap (λ rest. (n, line) ∷ rest) (numbered_all (n + 1) lines (All-tail (λ line. 0 < length line) line lines some))
