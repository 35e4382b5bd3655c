-- The csv of a table reads as its cells.
use Rattle.std.proofs.Common.{◌≡◌, ◌⊎◌, ◌==◌, ◌<◌, ℕ, suc, Bool, true, false, List, [], ◌∷◌, ◌++◌, ◌∙◌, refl, sym, ap, ap₂, inl, inr, map, length, append_assoc, arith, None}
use Rattle.std.specs.Prelude.{◌&&◌, flat_map, Option, Result, Ok, nat_eq}
use Rattle.std.specs.List.{AllByRecursion, starts_with}
use Rattle.std.proofs.Math.ListN.{length-map}
use Rattle.std.proofs.lemmas.Bool.{cases_Bool, ne_eqb, or_parts}
use Rattle.std.proofs.lemmas.List.{map-append}
use Rattle.std.proofs.lemmas.List.Elements.{recursion_from_All}
use Rattle.std.proofs.lemmas.Simd.{map-map}
use Rattle.model_lex.specs.believed.Lines.{byte_order_mark, without_mark}
use Rattle.comma_rows.specs.declared.position.Position.{Position}
use Rattle.comma_rows.specs.declared.comma_fault.CommaFault.{CommaFault}
use Rattle.comma_rows.specs.declared.action.Place.{Place}
use Rattle.comma_rows.specs.declared.action.Place.TheVariants.{LineStart, CellStart}
use Rattle.comma_rows.specs.believed.Positions.{first_place, next}
use Rattle.comma_rows.specs.Rows.{rows_of}
use Rattle.comma_rows.specs.believed.Reading.{Cell, Reading, no_more, read, unless_fault, with_cell}
use Rattle.comma_rows.proofs.ReadSteps.{read-end}
use Rattle.row_forms.specs.declared.row_form.RowForm.TheVariants.{Csv}
use Rattle.row_forms.specs.believed.Csv.{csv_cell, needs_quotes}
use Rattle.row_forms.specs.believed.Forms.{parting, text_of}
use Rattle.row_forms.specs.Laws.{CsvReadsBack, texts_of}
use Rattle.row_forms.specs.believed.Tables.{is_single, name_pieces, pieces, row_text, rows_text, head_text, table_text}
use Rattle.row_forms.proofs.CsvCells.{ends_cell, ends_row, cell-run, comma-ends, line-ends}
use Rattle.row_forms.proofs.Rows.{ended, HasCell, has-cells, has-names, rows-ended, rows-map}

-- the cells of a line, of which the first may be the first of the text
abbrev cells_text : Bool → Bool → Bool → List (List ℕ) → List ℕ
cells_text headed first only [] = []
cells_text headed first only (x ∷ xs) = (parting first 44 ++ csv_cell only (headed && first) x) ++ cells_text headed false only xs

abbrev with_cells : List Cell → Reading → Reading
with_cells [] reading = reading
with_cells (cell ∷ cells) reading = with_cell cell (with_cells cells reading)

abbrev seen : Cell → List ℕ × Bool
seen cell = (cell.text, cell.ends_row)

-- a row was read
record RowRun (before : Reading) (texts : List (List ℕ)) (tail : List ℕ) : Type 0 where
  cells : List Cell
  after : Position
  reads : before ≡ with_cells cells (read LineStart after after [] tail)
  told : map seen cells ≡ ended texts

-- a cell at this place may end before these
abbrev MayEnd : Place → List (List ℕ) → Type 0
MayEnd place [] = ends_row place ≡ true
MayEnd place (x ∷ xs) = ends_cell place ≡ true

may-end : (place : Place) (xs : List (List ℕ)) → ends_cell place ≡ true → ends_row place ≡ true → MayEnd place xs
may-end place [] comma line = line
may-end place (x ∷ xs) comma line = comma

cut-cell : (c u w : List ℕ) → ((44 ∷ c) ++ u) ++ w ≡ 44 ∷ (c ++ (u ++ w))
cut-cell c u w = ap (λ (l : List ℕ). 44 ∷ l) (append_assoc c u w)

-- the rest of a row, behind the text of a cell
rest-run : (headed only : Bool) (xs : List (List ℕ)) (place : Place) (begun at : Position) (text tail : List ℕ) → MayEnd place xs
    → RowRun (read place begun at text (cells_text headed false only xs ++ (13 ∷ 10 ∷ tail))) (text ∷ xs) tail
rest-run headed only [] place begun at text tail ends = record {
  cells = record { at = begun; text = text; ends_row = true } ∷ [];
  after = next 10 (next 13 at);
  reads = line-ends place begun at text tail ends;
  told = refl;
}
rest-run headed only (x ∷ xs) place begun at text tail ends =
    let rest = cells_text headed false only xs ++ (13 ∷ 10 ∷ tail) in
    let from = next 44 at in
    let run = cell-run CellStart from only (headed && false) x rest refl in
    let more = rest-run headed only xs run.place from run.after x tail (may-end run.place xs run.comma (run.line (inl refl))) in
    let cell : Cell = record { at = begun; text = text; ends_row = false } in
    record {
      cells = cell ∷ more.cells;
      after = more.after;
      reads =
          ap (read place begun at text) (cut-cell (csv_cell only (headed && false) x) (cells_text headed false only xs) (13 ∷ 10 ∷ tail))
          ∙ comma-ends place begun at text (csv_cell only (headed && false) x ++ rest) ends
          ∙ ap (with_cell cell) (run.reads ∙ more.reads);
      told = ap (λ (l : List (List ℕ × Bool)). (text, false) ∷ l) more.told;
    }

first-end : (place : Place) (only : Bool) (xs : List (List ℕ)) → ends_cell place ≡ true → ((ends_row LineStart ≡ true) ⊎ (only ≡ true) → ends_row place ≡ true)
    → only ≡ (length xs == 0) → MayEnd place xs
first-end place only [] comma line single = line (inr single)
first-end place only (x ∷ xs) comma line single = comma

-- a row
row-run : (headed only : Bool) (x : List ℕ) (xs : List (List ℕ)) (at : Position) (tail : List ℕ) → only ≡ (length xs == 0)
    → RowRun (read LineStart at at [] (cells_text headed true only (x ∷ xs) ++ (13 ∷ 10 ∷ tail))) (x ∷ xs) tail
row-run headed only x xs at tail single =
    let rest = cells_text headed false only xs ++ (13 ∷ 10 ∷ tail) in
    let run = cell-run LineStart at only (headed && true) x rest refl in
    let more = rest-run headed only xs run.place at run.after x tail (first-end run.place only xs run.comma run.line single) in
    record {
      cells = more.cells;
      after = more.after;
      reads =
          ap (read LineStart at at []) (append_assoc (csv_cell only (headed && true) x) (cells_text headed false only xs) (13 ∷ 10 ∷ tail))
          ∙ run.reads ∙ more.reads;
      told = more.told;
    }

-- ---- rows

-- the names are the cells of the first line
names-text : (first only : Bool) (names : List (List ℕ)) → name_pieces Csv first only names ≡ cells_text true first only names
names-text first only [] = refl
names-text first only (name ∷ names) = ap (λ (l : List ℕ). (parting first 44 ++ csv_cell only first name) ++ l) (names-text false only names)

pieces-text : (first only : Bool) (names : List (List ℕ)) (row : List (Option (List ℕ))) → length row ≡ length names
    → pieces Csv first only names row ≡ cells_text false first only (map text_of row)
pieces-text first only [] [] same = refl
pieces-text first only [] (cell ∷ cells) same = absurd (omega (arith, same))
pieces-text first only (name ∷ names) [] same = absurd (omega (arith, same))
pieces-text first only (name ∷ names) (cell ∷ cells) same =
    ap (λ (l : List ℕ). (parting first 44 ++ csv_cell only false (text_of cell)) ++ l) (pieces-text false only names cells (omega (arith, same)))

-- one column, one cell
single-row : (columns : ℕ) (xs : List (List ℕ)) → columns ≡ suc (length xs) → (columns == 1) ≡ (length xs == 0)
single-row columns [] same = rw same refl
single-row columns (x ∷ xs) same =
    ne_eqb columns 1 (λ one. absurd (omega (arith, same, one))) ∙ sym (ne_eqb (suc (length xs)) 0 (λ none. absurd (omega (arith, none))))

abbrev line_end : List ℕ
line_end = 13 ∷ 10 ∷ []

line-run : (names : List (List ℕ)) (first : Bool) (row : List (Option (List ℕ))) (at : Position) (tail : List ℕ) → 0 < length names → length row ≡ length names
    → RowRun (read LineStart at at [] (row_text Csv names first row ++ tail)) (map text_of row) tail
line-run names first [] at tail some same = absurd (omega (arith, some, same))
line-run names first (cell ∷ cells) at tail some same =
    let single = single-row (length names) (map text_of cells) (sym same ∙ ap suc (sym (length-map cells text_of))) in
    let run = row-run false (is_single names) (text_of cell) (map text_of cells) at tail single in
    record {
      cells = run.cells;
      after = run.after;
      reads =
          ap (read LineStart at at [])
          (append_assoc (pieces Csv true (is_single names) names (cell ∷ cells)) line_end tail
          ∙ ap (λ (l : List ℕ). l ++ (13 ∷ 10 ∷ tail)) (pieces-text true (is_single names) names (cell ∷ cells) same))
          ∙ run.reads;
      told = run.told;
    }

head-run : (names : List (List ℕ)) (at : Position) (tail : List ℕ) → 0 < length names → RowRun (read LineStart at at [] (head_text Csv names ++ tail)) names tail
head-run [] at tail some = absurd (omega (arith, some))
head-run (name ∷ names) at tail some =
    let single = single-row (length (name ∷ names)) names refl in
    let run = row-run true (is_single (name ∷ names)) name names at tail single in
    record {
      cells = run.cells;
      after = run.after;
      reads =
          ap (read LineStart at at [])
          (append_assoc (name_pieces Csv true (is_single (name ∷ names)) (name ∷ names)) line_end tail
          ∙ ap (λ (l : List ℕ). l ++ (13 ∷ 10 ∷ tail)) (names-text true (is_single (name ∷ names)) (name ∷ names)))
          ∙ run.reads;
      told = run.told;
    }

-- rows were read, to the end
record TableRun (before : Reading) (rows : List (List (List ℕ))) : Type 0 where
  cells : List Cell
  reads : before ≡ with_cells cells no_more
  told : map seen cells ≡ flat_map ended rows

with-append : (xs ys : List Cell) (reading : Reading) → with_cells xs (with_cells ys reading) ≡ with_cells (xs ++ ys) reading
with-append [] ys reading = refl
with-append (x ∷ xs) ys reading = ap (with_cell x) (with-append xs ys reading)

-- a row before rows
one-more : (before : Reading) (row : List (List ℕ)) (rows : List (List (List ℕ))) (tail : List ℕ) → RowRun before row tail
    → ((at : Position) → TableRun (read LineStart at at [] tail) rows) → TableRun before (row ∷ rows)
one-more before row rows tail line more =
    let rest = more line.after in
    record {
      cells = line.cells ++ rest.cells;
      reads = line.reads ∙ ap (with_cells line.cells) rest.reads ∙ with-append line.cells rest.cells no_more;
      told = map-append seen line.cells rest.cells ∙ ap₂ (λ (xs ys : List (List ℕ × Bool)). xs ++ ys) line.told rest.told;
    }

rows-run : (names : List (List ℕ)) (first : Bool) (rows : List (List (Option (List ℕ)))) (at : Position) → 0 < length names
    → AllByRecursion (λ row. length row ≡ length names) rows → TableRun (read LineStart at at [] (rows_text Csv names first rows ++ [])) (map (map text_of) rows)
rows-run names first [] at some same = record { cells = []; reads = read-end LineStart at at [] [] refl; told = refl }
rows-run names first (row ∷ rows) at some same =
    let text : (row_text Csv names first row ++ rows_text Csv names false rows) ++ [] ≡ row_text Csv names first row ++ (rows_text Csv names false rows ++ []) =
    append_assoc (row_text Csv names first row) (rows_text Csv names false rows) [] in
    let run = line-run names first row at (rows_text Csv names false rows ++ []) some same.0 in
    one-more (read LineStart at at [] ((row_text Csv names first row ++ rows_text Csv names false rows) ++ [])) (map text_of row) (map (map text_of) rows) (rows_text Csv names false rows ++ [])
    (record { cells = run.cells; after = run.after; reads = ap (read LineStart at at []) text ∙ run.reads; told = run.told })
    (λ after. rows-run names false rows after some same.1)

table-run : (names : List (List ℕ)) (rows : List (List (Option (List ℕ)))) (at : Position) → 0 < length names → AllByRecursion (λ row. length row ≡ length names) rows
    → TableRun (read LineStart at at [] (table_text Csv names rows)) (texts_of names rows)
table-run names rows at some same =
    one-more (read LineStart at at [] (table_text Csv names rows)) names (map (map text_of) rows) (rows_text Csv names true rows ++ [])
    (head-run names at (rows_text Csv names true rows ++ []) some) (λ after. rows-run names true rows after some same)

-- ---- no byte-order mark

and-false : (b : Bool) → (b && false) ≡ false
and-false true = refl
and-false false = refl

-- a text goes on with a byte that is none of the mark's
stays-unmarked : (cell : List ℕ) (byte : ℕ) (tail : List ℕ) → starts_with nat_eq cell byte_order_mark ≡ false
    → nat_eq 0xef byte ≡ false → nat_eq 0xbb byte ≡ false → nat_eq 0xbf byte ≡ false → starts_with nat_eq (cell ++ (byte ∷ tail)) byte_order_mark ≡ false
stays-unmarked [] byte tail plain a b c = rw a refl
stays-unmarked (x ∷ []) byte tail plain a b c = rw b (and-false (nat_eq 0xef x))
stays-unmarked (x ∷ y ∷ []) byte tail plain a b c = rw c (ap (λ (z : Bool). nat_eq 0xef x && z) (and-false (nat_eq 0xbb y)) ∙ and-false (nat_eq 0xef x))
stays-unmarked (x ∷ y ∷ z ∷ more) byte tail plain a b c = plain

first-unmarked : (only : Bool) (cell : List ℕ) (byte : ℕ) (tail : List ℕ) → nat_eq 0xef byte ≡ false → nat_eq 0xbb byte ≡ false → nat_eq 0xbf byte ≡ false
    → starts_with nat_eq (csv_cell only true cell ++ (byte ∷ tail)) byte_order_mark ≡ false
first-unmarked only cell byte tail a b c = elim (cases_Bool (needs_quotes only true cell)) [
  | inl needs ↦ rw needs refl
  | inr plain ↦
      let unmarked = (or_parts _ (starts_with nat_eq cell byte_order_mark) plain).1 in
      rw plain (stays-unmarked cell byte tail unmarked a b c)
]

-- the first line has no mark before it
head-unmarked : (name : List ℕ) (names : List (List ℕ)) (tail : List ℕ) → starts_with nat_eq (head_text Csv (name ∷ names) ++ tail) byte_order_mark ≡ false
head-unmarked name [] tail =
    ap (λ (t : List ℕ). starts_with nat_eq t byte_order_mark)
    (append_assoc (csv_cell true true name ++ []) line_end tail ∙ append_assoc (csv_cell true true name) [] (13 ∷ 10 ∷ tail))
    ∙ first-unmarked true name 13 (10 ∷ tail) refl refl refl
head-unmarked name (other ∷ names) tail =
    let only = is_single (name ∷ other ∷ names) in
    let rest = csv_cell only false other ++ name_pieces Csv false only names in
    ap (λ (t : List ℕ). starts_with nat_eq t byte_order_mark)
    (append_assoc (csv_cell only true name ++ (44 ∷ rest)) line_end tail ∙ append_assoc (csv_cell only true name) (44 ∷ rest) (13 ∷ 10 ∷ tail))
    ∙ first-unmarked only name 44 (rest ++ (13 ∷ 10 ∷ tail)) refl refl refl

no-mark : (names : List (List ℕ)) (rows : List (List (Option (List ℕ)))) → 0 < length names → without_mark (table_text Csv names rows) ≡ table_text Csv names rows
no-mark [] rows some = absurd (omega (arith, some))
no-mark (name ∷ names) rows some = rw (head-unmarked name names (rows_text Csv (name ∷ names) true rows ++ [])) refl

-- ---- the law

cells-of : (cells : List Cell) → with_cells cells no_more ≡ record { cells = cells; fault = None }
cells-of [] = refl
cells-of (cell ∷ cells) = ap (with_cell cell) (cells-of cells)

-- the texts of a reading without a fault
abbrev told_texts : Reading → Result (List (List (List ℕ))) CommaFault
told_texts reading = unless_fault reading.fault (map (map (λ cell. cell.text)) (rows_of (λ cell. cell.ends_row) reading.cells))

maps-twice : (rows : List (List Cell)) → map (map (λ cell. cell.0)) (map (map seen) rows) ≡ map (map (λ cell. cell.text)) rows
maps-twice [] = refl
maps-twice (row ∷ rows) = ap₂ (λ (r : List (List ℕ)) (rs : List (List (List ℕ))). r ∷ rs) (map-map (λ (cell : List ℕ × Bool). cell.0) seen row) (maps-twice rows)

run-texts : (before : Reading) (rows : List (List (List ℕ))) → AllByRecursion HasCell rows → TableRun before rows → told_texts before ≡ Ok rows
run-texts before rows has run =
    ap told_texts (run.reads ∙ cells-of run.cells)
    ∙ ap (λ (l : List (List (List ℕ))). Ok l)
    (sym (maps-twice (rows_of (λ cell. cell.ends_row) run.cells))
    ∙ ap (map (map (λ (cell : List ℕ × Bool). cell.0))) (sym (rows-map seen (λ cell. cell.1) run.cells))
    ∙ ap (λ (l : List (List ℕ × Bool)). map (map (λ (cell : List ℕ × Bool). cell.0)) (rows_of (λ cell. cell.1) l)) run.told
    ∙ rows-ended rows has)

pub csv-reads-back : CsvReadsBack
csv-reads-back names rows table =
    let same = recursion_from_All (λ row. length row ≡ length names) rows table.1 in
    ap (λ (t : List ℕ). told_texts (read LineStart first_place first_place [] t)) (no-mark names rows table.0)
    ∙ run-texts (read LineStart first_place first_place [] (table_text Csv names rows)) (texts_of names rows)
    (has-names names table.0, has-cells names rows table.0 same) (table-run names rows first_place table.0 same)
