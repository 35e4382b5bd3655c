-- A table whose cells commas part has the same rows with tabs: line by line, and cell by cell.
use Rattle.std.proofs.Common.{◌≡◌, ◌≤◌, ◌<◌, ◌+◌, ◌-◌, ◌==◌, ◌||◌, ◌&&◌, ℕ, zero, suc, Bool, true, false, cond, if◌then◌else◌, nat_lt, Some, None, Option, Ok, List, [], ◌∷◌, ◌++◌, length, map, replicate, take, get_or, All, refl, ap, sym, ◌∙◌, arith, append_assoc, length-append}
use Rattle.std.specs.List.{enumerate_from, filter, slice_split}
use Rattle.std.specs.Prelude.{slice_index}
use Rattle.std.proofs.lemmas.Bool.{cond-false, false≢true, lt-ltb, ne_eqb}
use Rattle.std.proofs.lemmas.List.{append-nil}
use Rattle.std.proofs.lemmas.List.Elements.{All-append, All-cons, All-head, All-map, All-nil, All-tail, All-weaker}
use Rattle.std.proofs.lemmas.List.Splits.{length-slice_split, slice_split_at, slice_split_none}
use Rattle.model_lex.specs.believed.Lines.{ended_lines, file_lines, is_line_feed, without_return}
use Rattle.model_lex.proofs.Cutting.{ended_lines-cons}
use Rattle.definitions.specs.believed.RowFile.{cells_of_line, without_spaces}
use Rattle.comma_rows.specs.believed.Reading.{Cell, comma_cells, unless_fault}
use Rattle.comma_rows.specs.declared.comma_fault.CommaFault.{CommaFault}
use Rattle.value_text.proofs.ListLemmas.{one_ok}
use Rattle.comma_rows.specs.Rows.{onto_rows, rows_of}
use Rattle.jeldroft_files.specs.ReadBack.{CommasReadAsTabs, row_line, shown_cell, tab_rows}
use Rattle.jeldroft_files.specs.believed.Tables.{shown, shown_byte, tabbed, tabbed_from}
use Rattle.jeldroft_files.proofs.InOrder.{AreInOrder, cells_in_order}

-- ---- bytes of cells and of lines

-- a byte that isn't a tab, and one that ends no line
abbrev is_tab : ℕ → Bool
is_tab byte = byte == 9

abbrev IsNoTab : ℕ → Type 0
IsNoTab byte = is_tab byte ≡ false

abbrev IsOfLine : ℕ → Type 0
IsOfLine byte = (is_line_feed byte ≡ false) × ((byte == 13) ≡ false)

byte_fine : (byte : ℕ) → (is_tab (shown_byte byte) ≡ false) × IsOfLine (shown_byte byte)
byte_fine byte = go (byte == 9) (byte == 10) (byte == 13) refl refl refl
  where
    go : (tab feed return : Bool) → (byte == 9) ≡ tab → (byte == 10) ≡ feed → (byte == 13) ≡ return
        → (is_tab (if tab || (feed || return) then 1 else byte) ≡ false) × IsOfLine (if tab || (feed || return) then 1 else byte)
    go true feed return a b c = (refl, (refl, refl))
    go false true return a b c = (refl, (refl, refl))
    go false false true a b c = (refl, (refl, refl))
    go false false false a b c = (a, (b, c))

text_without_tabs : (text : List ℕ) → All IsNoTab (map shown_byte text)
text_without_tabs text = All-map IsNoTab shown_byte text (λ k d inside. (byte_fine (get_or text k d)).0)

text_of_line : (text : List ℕ) → All IsOfLine (map shown_byte text)
text_of_line text = All-map IsOfLine shown_byte text (λ k d inside. (byte_fine (get_or text k d)).1)

shown_without_tabs : (starts : Bool) (cell : Cell) → All IsNoTab (shown starts cell)
shown_without_tabs starts cell = go (starts && (cell.ends_row && (length cell.text == 0)))
  where
    go : (alone : Bool) → All IsNoTab (if alone then 32 ∷ [] else map shown_byte cell.text)
    go true = All-cons IsNoTab 32 [] refl (All-nil IsNoTab)
    go false = text_without_tabs cell.text

shown_of_line : (starts : Bool) (cell : Cell) → All IsOfLine (shown starts cell)
shown_of_line starts cell = go (starts && (cell.ends_row && (length cell.text == 0)))
  where
    go : (alone : Bool) → All IsOfLine (if alone then 32 ∷ [] else map shown_byte cell.text)
    go true = All-cons IsOfLine 32 [] (refl, refl) (All-nil IsOfLine)
    go false = text_of_line cell.text

-- ---- rows

-- what stands in a row behind its first cell, the cells of that, and those behind the row
abbrev row_rest : List Cell → List ℕ
row_rest [] = []
row_rest (cell ∷ cells) = 9 ∷ (map shown_byte cell.text ++ (if cell.ends_row then [] else row_rest cells))

abbrev row_cells : List Cell → List Cell
row_cells [] = []
row_cells (cell ∷ cells) = cell ∷ (if cell.ends_row then [] else row_cells cells)

abbrev behind_row : List Cell → List Cell
behind_row [] = []
behind_row (cell ∷ cells) = if cell.ends_row then cells else behind_row cells

behind_shorter : (cells : List Cell) → length (behind_row cells) ≤ length cells
behind_shorter [] = omega arith
behind_shorter (cell ∷ cells) = go cell.ends_row (behind_shorter cells)
  where
    go : (ends : Bool) → length (behind_row cells) ≤ length cells → length (if ends then cells else behind_row cells) ≤ length (cell ∷ cells)
    go true shorter = omega arith
    go false shorter = omega (arith, shorter)

rest_of_line : (cells : List Cell) → All IsOfLine (row_rest cells)
rest_of_line [] = All-nil IsOfLine
rest_of_line (cell ∷ cells) =
    let rest = if cell.ends_row then [] else row_rest cells in
    All-cons IsOfLine 9 (map shown_byte cell.text ++ rest) (refl, refl)
    (All-append IsOfLine (map shown_byte cell.text) rest (text_of_line cell.text) (go cell.ends_row (rest_of_line cells)))
  where
    go : (ends : Bool) → All IsOfLine (row_rest cells) → All IsOfLine (if ends then [] else row_rest cells)
    go true all = All-nil IsOfLine
    go false all = all

-- the text, the cells and the order of what follows in a row
rest_text : (line : ℕ) (cells : List Cell) → AreInOrder false line cells
    → tabbed_from false line cells ≡ row_rest cells ++ 10 ∷ tabbed_from true (line + 1) (behind_row cells)
unfolding tabbed_from
rest_text line [] order = absurd (false≢true order)
rest_text line (cell ∷ cells) order = go cell.ends_row order.1 (λ o. rest_text line cells o)
  where
    go : (ends : Bool) → AreInOrder ends (if ends then line + 1 else line) cells
        → (AreInOrder false line cells → tabbed_from false line cells ≡ row_rest cells ++ 10 ∷ tabbed_from true (line + 1) (behind_row cells))
        → (9 ∷ (map shown_byte cell.text ++ (if ends then 10 ∷ [] else []))) ++ tabbed_from ends (if ends then line + 1 else line) cells
        ≡ (9 ∷ (map shown_byte cell.text ++ (if ends then [] else row_rest cells))) ++ 10 ∷ tabbed_from true (line + 1) (if ends then cells else behind_row cells)
    go true later rest =
        ap (λ t. 9 ∷ t) (append_assoc (map shown_byte cell.text) (10 ∷ []) (tabbed_from true (line + 1) cells)
        ∙ ap (λ t. t ++ 10 ∷ tabbed_from true (line + 1) cells) (sym (append-nil (map shown_byte cell.text))))
    go false later rest =
        ap (λ t. 9 ∷ t) (ap (λ t. t ++ tabbed_from false line cells) (append-nil (map shown_byte cell.text))
        ∙ ap (λ t. map shown_byte cell.text ++ t) (rest later)
        ∙ sym (append_assoc (map shown_byte cell.text) (row_rest cells) (10 ∷ tabbed_from true (line + 1) (behind_row cells))))

-- a row that ends with its first cell, and one that goes on
first_row : (cell : Cell) (rows : List (List Cell)) → onto_rows true cell rows ≡ (cell ∷ []) ∷ rows
first_row cell [] = refl
first_row cell (row ∷ rows) = refl

rest_rows : (line : ℕ) (cells : List Cell) → AreInOrder false line cells
    → rows_of (λ cell. cell.ends_row) cells ≡ row_cells cells ∷ rows_of (λ cell. cell.ends_row) (behind_row cells)
rest_rows line [] order = absurd (false≢true order)
rest_rows line (cell ∷ cells) order = go cell.ends_row order.1 (λ o. rest_rows line cells o)
  where
    go : (ends : Bool) → AreInOrder ends (if ends then line + 1 else line) cells
        → (AreInOrder false line cells → rows_of (λ cell. cell.ends_row) cells ≡ row_cells cells ∷ rows_of (λ cell. cell.ends_row) (behind_row cells))
        → onto_rows ends cell (rows_of (λ cell. cell.ends_row) cells)
        ≡ (cell ∷ (if ends then [] else row_cells cells)) ∷ rows_of (λ cell. cell.ends_row) (if ends then cells else behind_row cells)
    go true later rest = first_row cell (rows_of (λ cell. cell.ends_row) cells)
    go false later rest = ap (onto_rows false cell) (rest later)

rest_order : (line : ℕ) (cells : List Cell) → AreInOrder false line cells → AreInOrder true (line + 1) (behind_row cells)
rest_order line [] order = absurd (false≢true order)
rest_order line (cell ∷ cells) order = go cell.ends_row order.1 (λ o. rest_order line cells o)
  where
    go : (ends : Bool) → AreInOrder ends (if ends then line + 1 else line) cells → (AreInOrder false line cells → AreInOrder true (line + 1) (behind_row cells))
        → AreInOrder true (line + 1) (if ends then cells else behind_row cells)
    go true later rest = later
    go false later rest = rest later

-- the cells of a row, cut at its tabs
cut_rest : (first : List ℕ) (cells : List Cell) → All IsNoTab first
    → slice_split is_tab (first ++ row_rest cells) ≡ first ∷ map (λ cell. map shown_byte cell.text) (row_cells cells)
cut_rest first [] all = ap (slice_split is_tab) (append-nil first) ∙ slice_split_none is_tab first all
cut_rest first (cell ∷ cells) all =
    slice_split_at is_tab first 9 (map shown_byte cell.text ++ (if cell.ends_row then [] else row_rest cells)) all refl
    ∙ ap (λ t. first ∷ t) (go cell.ends_row (cut_rest (map shown_byte cell.text) cells (text_without_tabs cell.text)))
  where
    go : (ends : Bool) → slice_split is_tab (map shown_byte cell.text ++ row_rest cells) ≡ map shown_byte cell.text ∷ map (λ cell. map shown_byte cell.text) (row_cells cells)
        → slice_split is_tab (map shown_byte cell.text ++ (if ends then [] else row_rest cells))
        ≡ map shown_byte cell.text ∷ map (λ cell. map shown_byte cell.text) (if ends then [] else row_cells cells)
    go true rest = ap (slice_split is_tab) (append-nil (map shown_byte cell.text)) ∙ slice_split_none is_tab (map shown_byte cell.text) (text_without_tabs cell.text)
    go false rest = rest

-- ---- lines

no_return_at : (text : List ℕ) (place : ℕ) → All IsOfLine text → (slice_index text place == 13) ≡ false
no_return_at [] place all = refl
no_return_at (byte ∷ text) zero all = (All-head IsOfLine byte text all).1
no_return_at (byte ∷ text) (suc place) all = no_return_at text place (All-tail IsOfLine byte text all)

kept_whole : (text : List ℕ) → All IsOfLine text → without_return text ≡ text
kept_whole text all = cond-false (nat_lt 0 (length text) && (slice_index text (length text - 1) == 13)) (take (length text - 1) text) text (by (nat_lt 0 (length text)))
  where
    by : (some : Bool) → (some && (slice_index text (length text - 1) == 13)) ≡ false
    by true = no_return_at text (length text - 1) all
    by false = refl

no_feeds : (text : List ℕ) → All IsOfLine text → All (λ byte. is_line_feed byte ≡ false) text
no_feeds text all = All-weaker IsOfLine (λ byte. is_line_feed byte ≡ false) (λ byte is. is.0) text all

-- the first line, and the others
cut_line : (text rest : List ℕ) → All IsOfLine text → file_lines (text ++ 10 ∷ rest) ≡ text ∷ file_lines rest
cut_line text rest all =
    ap (λ lines. map without_return (ended_lines lines)) (slice_split_at is_line_feed text 10 rest (no_feeds text all) refl)
    ∙ ap (map without_return) (ended_lines-cons text (slice_split is_line_feed rest) (omega (arith, length-slice_split is_line_feed rest)))
    ∙ ap (λ first. first ∷ file_lines rest) (kept_whole text all)

-- the rows from a line on
abbrev rows_from : ℕ → List ℕ → List (ℕ × List (List ℕ))
rows_from line text = map (λ line. (line.0, cells_of_line line.1)) (filter (λ line. nat_lt 0 (length line.1)) (enumerate_from line (file_lines text)))

-- lines without a byte are no rows
behind_feeds : (count line : ℕ) (rest : List ℕ) → rows_from line (replicate count 10 ++ rest) ≡ rows_from (line + count) rest
behind_feeds zero line rest = ap (λ n. rows_from n rest) (omega arith)
behind_feeds (suc count) line rest =
    ap (λ lines. map (λ line. (line.0, cells_of_line line.1)) (filter (λ line. nat_lt 0 (length line.1)) (enumerate_from line lines))) (cut_line [] (replicate count 10 ++ rest) (All-nil IsOfLine))
    ∙ behind_feeds count (line + 1) rest ∙ ap (λ n. rows_from n rest) (omega arith)

-- a line with a byte is one
first_row_from : (line : ℕ) (text rest : List ℕ) → All IsOfLine text → 0 < length text
    → rows_from line (text ++ 10 ∷ rest) ≡ (line, cells_of_line text) ∷ rows_from (line + 1) rest
first_row_from line text rest all some =
    ap (λ lines. map (λ line. (line.0, cells_of_line line.1)) (filter (λ line. nat_lt 0 (length line.1)) (enumerate_from line lines))) (cut_line text rest all)
    ∙ ap (λ keeps. map (λ line. (line.0, cells_of_line line.1)) (cond keeps ((line, text) ∷ filter (λ line. nat_lt 0 (length line.1)) (enumerate_from (line + 1) (file_lines rest))) (filter (λ line. nat_lt 0 (length line.1)) (enumerate_from (line + 1) (file_lines rest)))))
    (lt-ltb 0 (length text) some)

-- ---- the whole

first_some : (cell : Cell) → cell.ends_row ≡ true → 0 < length (shown true cell)
first_some cell is = go cell.ends_row cell.text is
  where
    go : (ends : Bool) (text : List ℕ) → ends ≡ true → 0 < length (if ends && (length text == 0) then 32 ∷ [] else map shown_byte text)
    go true [] is = omega arith
    go true (byte ∷ text) is = rw (ne_eqb (length (byte ∷ text)) 0 (λ z. omega arith)) (omega arith)
    go false text is = absurd (false≢true is)

first_cell : (cell : Cell) → without_spaces (shown true cell) ≡ shown_cell cell
first_cell cell = go cell.ends_row cell.text
  where
    go : (ends : Bool) (text : List ℕ) → without_spaces (if ends && (length text == 0) then 32 ∷ [] else map shown_byte text) ≡ without_spaces (map shown_byte text)
    go true [] = refl
    go true (byte ∷ text) = rw (ne_eqb (length (byte ∷ text)) 0 (λ z. omega arith)) refl
    go false text = refl

some_rest : (line : ℕ) (cells : List Cell) → AreInOrder false line cells → 0 < length (row_rest cells)
some_rest line [] order = absurd (false≢true order)
some_rest line (cell ∷ cells) order = omega arith

map_twice : (cells : List Cell) → map without_spaces (map (λ (cell : Cell). map shown_byte cell.text) cells) ≡ map shown_cell cells
map_twice [] = refl
map_twice (cell ∷ cells) = ap (λ rest. shown_cell cell ∷ rest) (map_twice cells)

abbrev shown_row : List Cell → ℕ × List (List ℕ)
shown_row row = (row_line row, map shown_cell row)

abbrev ends_row : Cell → Bool
ends_row cell = cell.ends_row

module _ (line count : ℕ) (cell : Cell) (cells : List Cell) (first : List ℕ) (place : line + count ≡ cell.at.line)
    (tabs : All IsNoTab first) (of_line : All IsOfLine first) (is_first : without_spaces first ≡ shown_cell cell) where
  -- a row of one cell
  one_cell : (rest : List ℕ) (rows : List (List Cell)) → 0 < length first → rows_from (line + count + 1) rest ≡ map shown_row rows
      → rows_from line ((replicate count 10 ++ (first ++ 10 ∷ [])) ++ rest) ≡ map shown_row (onto_rows true cell rows)
  one_cell rest rows some others =
      ap (rows_from line) (append_assoc (replicate count 10) (first ++ 10 ∷ []) rest ∙ ap (λ t. replicate count 10 ++ t) (append_assoc first (10 ∷ []) rest))
      ∙ behind_feeds count line (first ++ 10 ∷ rest)
      ∙ first_row_from (line + count) first rest of_line some
      ∙ ap (λ cut. (line + count, map without_spaces cut) ∷ rows_from (line + count + 1) rest) (slice_split_none is_tab first tabs)
      ∙ ap (λ text. (line + count, text ∷ []) ∷ rows_from (line + count + 1) rest) is_first
      ∙ ap (λ n. (n, shown_cell cell ∷ []) ∷ rows_from (line + count + 1) rest) place
      ∙ ap (λ rest. (cell.at.line, shown_cell cell ∷ []) ∷ rest) others
      ∙ ap (map shown_row) (sym (first_row cell rows))

  -- a row that goes on
  more_cells : AreInOrder false (line + count) cells
      → rows_from (line + count + 1) (tabbed_from true (line + count + 1) (behind_row cells)) ≡ map shown_row (rows_of ends_row (behind_row cells))
      → rows_from line ((replicate count 10 ++ (first ++ [])) ++ tabbed_from false (line + count) cells) ≡ map shown_row (onto_rows false cell (rows_of ends_row cells))
  more_cells order others =
      let rest = tabbed_from true (line + count + 1) (behind_row cells) in
      ap (λ t. rows_from line ((replicate count 10 ++ t) ++ tabbed_from false (line + count) cells)) (append-nil first)
      ∙ ap (λ t. rows_from line ((replicate count 10 ++ first) ++ t)) (rest_text (line + count) cells order)
      ∙ ap (rows_from line) (append_assoc (replicate count 10) first (row_rest cells ++ 10 ∷ rest) ∙ ap (λ t. replicate count 10 ++ t) (sym (append_assoc first (row_rest cells) (10 ∷ rest))))
      ∙ behind_feeds count line ((first ++ row_rest cells) ++ 10 ∷ rest)
      ∙ first_row_from (line + count) (first ++ row_rest cells) rest (All-append IsOfLine first (row_rest cells) of_line (rest_of_line cells))
      (omega (arith, length-append first (row_rest cells), some_rest (line + count) cells order))
      ∙ ap (λ cut. (line + count, map without_spaces cut) ∷ rows_from (line + count + 1) rest) (cut_rest first cells tabs)
      ∙ ap (λ text. (line + count, text ∷ map without_spaces (map (λ (cell : Cell). map shown_byte cell.text) (row_cells cells))) ∷ rows_from (line + count + 1) rest) is_first
      ∙ ap (λ later. (line + count, shown_cell cell ∷ later) ∷ rows_from (line + count + 1) rest) (map_twice (row_cells cells))
      ∙ ap (λ n. (n, shown_cell cell ∷ map shown_cell (row_cells cells)) ∷ rows_from (line + count + 1) rest) place
      ∙ ap (λ rest. (cell.at.line, shown_cell cell ∷ map shown_cell (row_cells cells)) ∷ rest) others
      ∙ ap (λ rows. map shown_row (onto_rows false cell rows)) (sym (rest_rows (line + count) cells order))

all_rows : (most line : ℕ) (cells : List Cell) → length cells ≤ most → AreInOrder true line cells
    → rows_from line (tabbed_from true line cells) ≡ map shown_row (rows_of ends_row cells)
unfolding tabbed_from
all_rows most line [] few order = refl
all_rows zero line (cell ∷ cells) few order = absurd (omega arith)
all_rows (suc most) line (cell ∷ cells) few order = go cell.ends_row (first_some cell) order.1 (all_rows most)
  where
    place : line + (cell.at.line - line) ≡ cell.at.line
    place = let begins = order.0 refl in omega (arith, begins)

    go : (ends : Bool) → (ends ≡ true → 0 < length (shown true cell)) → AreInOrder ends (if ends then line + (cell.at.line - line) + 1 else line + (cell.at.line - line)) cells
        → ((line : ℕ) (cells : List Cell) → length cells ≤ most → AreInOrder true line cells → rows_from line (tabbed_from true line cells) ≡ map shown_row (rows_of ends_row cells))
        → rows_from line ((replicate (cell.at.line - line) 10 ++ (shown true cell ++ (if ends then 10 ∷ [] else [])))
        ++ tabbed_from ends (if ends then line + (cell.at.line - line) + 1 else line + (cell.at.line - line)) cells)
        ≡ map shown_row (onto_rows ends cell (rows_of ends_row cells))
    go true some later others =
        one_cell line (cell.at.line - line) cell cells (shown true cell) place (shown_without_tabs true cell) (shown_of_line true cell) (first_cell cell)
        (tabbed_from true (line + (cell.at.line - line) + 1) cells) (rows_of ends_row cells) (some refl)
        (others (line + (cell.at.line - line) + 1) cells (omega (arith, few)) later)
    go false some later others =
        more_cells line (cell.at.line - line) cell cells (shown true cell) place (shown_without_tabs true cell) (shown_of_line true cell) (first_cell cell) later
        (others (line + (cell.at.line - line) + 1) (behind_row cells) (omega (arith, few, behind_shorter cells)) (rest_order (line + (cell.at.line - line)) cells later))

pub read_back : CommasReadAsTabs
read_back bytes table is = go (comma_cells bytes).fault refl is
  where
    cells : List Cell
    cells = (comma_cells bytes).cells

    go : (fault : Option CommaFault) → (comma_cells bytes).fault ≡ fault → unless_fault fault (tabbed cells) ≡ Ok table → tab_rows table ≡ map shown_row (rows_of ends_row cells)
    go None sound same =
        let whole : tabbed cells ≡ table = sym (one_ok same refl) in
        ap tab_rows (sym whole) ∙ all_rows (length cells) 1 cells (omega arith) (cells_in_order bytes sound)
    go (Some fault) found same = absurd (cc)
