-- The lines of the markdown of a table read as its names and cells.
use Rattle.std.proofs.Common.{◌≡◌, ◌==◌, ◌<◌, ◌-◌, ℕ, Bool, true, false, List, [], ◌∷◌, ◌++◌, ◌∙◌, refl, sym, ap, inl, inr, map, length, take, drop, append_assoc, append-nil, arith}
use Rattle.std.specs.Prelude.{flat_map, Option, if◌then◌else◌}
use Rattle.std.specs.List.{AllByRecursion}
use Rattle.std.proofs.Math.Seq.{take-append_seam}
use Rattle.std.proofs.lemmas.Bool.{cases_Bool, eqb-true}
use Rattle.std.proofs.lemmas.List.{length-append}
use Rattle.std.proofs.lemmas.List.Elements.{recursion_from_All}
use Rattle.comma_rows.specs.believed.Reading.{begins_with_feed}
use Rattle.comma_rows.specs.Rows.{rows_of}
use Rattle.row_forms.specs.declared.row_form.RowForm.TheVariants.{Markdown}
use Rattle.row_forms.specs.believed.Forms.{dashes, text_of}
use Rattle.row_forms.specs.Laws.{MarkdownReadsBack}
use Rattle.row_forms.specs.Markdown.{Spot, AtPipe, InCell, AtFeed, cells_from, without_blanks, without_second}
use Rattle.row_forms.specs.believed.Markdown.{escaped, escaped_byte, is_punctuation}
use Rattle.row_forms.specs.believed.Tables.{is_single, name_pieces, pieces, row_text, rows_text, table_text}
use Rattle.row_forms.proofs.Rows.{ended, HasCell, has-cells, has-names, rows-ended}

-- a byte that is no punctuation
plain-byte : (text : List ℕ) (byte : ℕ) (tail : List ℕ) → is_punctuation byte ≡ false
    → cells_from InCell text (byte ∷ tail) ≡ cells_from InCell (text ++ (byte ∷ [])) tail
unfolding cells_from
plain-byte text byte tail plain = rw (not-mark 92 refl, not-mark 124 refl) refl
  where
    not-mark : (mark : ℕ) → is_punctuation mark ≡ true → (byte == mark) ≡ false
    not-mark mark is = elim (cases_Bool (byte == mark)) [
      | inl same ↦ cc (ap is_punctuation (eqb-true byte mark same), is, plain)
      | inr other ↦ other
    ]

-- a byte behind its backslash
marked-byte : (text : List ℕ) (byte : ℕ) (tail : List ℕ) → cells_from InCell text (92 ∷ byte ∷ tail) ≡ cells_from InCell (text ++ (byte ∷ [])) tail
unfolding cells_from
marked-byte text byte tail = refl

byte-run : (text : List ℕ) (byte : ℕ) (tail : List ℕ) → cells_from InCell text (escaped_byte byte ++ tail) ≡ cells_from InCell (text ++ (byte ∷ [])) tail
byte-run text byte tail = elim (cases_Bool (is_punctuation byte)) [
  | inl marked ↦ rw marked (marked-byte text byte tail)
  | inr plain ↦ rw plain (plain-byte text byte tail plain)
]

-- the text of a cell
text-run : (text x tail : List ℕ) → cells_from InCell text (escaped x ++ tail) ≡ cells_from InCell (text ++ x) tail
text-run text [] tail = ap (λ (t : List ℕ). cells_from InCell t tail) (sym (append-nil text))
text-run text (byte ∷ x) tail =
    ap (cells_from InCell text) (append_assoc (escaped_byte byte) (escaped x) tail) ∙ byte-run text byte (escaped x ++ tail)
    ∙ text-run (text ++ (byte ∷ [])) x tail ∙ ap (λ (t : List ℕ). cells_from InCell t tail) (append_assoc text (byte ∷ []) x)

-- the blanks around it
blanks-off : (x : List ℕ) → without_blanks (32 ∷ (x ++ (32 ∷ []))) ≡ x
blanks-off x =
    let size : length (32 ∷ (x ++ (32 ∷ []))) - 1 ≡ length (32 ∷ x) = omega (arith, length-append x (32 ∷ [])) in
    ap (λ (n : ℕ). drop 1 (take n (32 ∷ (x ++ (32 ∷ []))))) size ∙ ap (drop 1) (take-append_seam (32 ∷ x) (32 ∷ []))

-- where the text goes on behind a pipe that ends a cell
abbrev behind : List ℕ → Spot
behind tail = if begins_with_feed tail then AtFeed else InCell

ends-cell : (text tail : List ℕ) → cells_from InCell text (32 ∷ 124 ∷ tail) ≡ (without_blanks (text ++ (32 ∷ [])), begins_with_feed tail) ∷ cells_from (behind tail) [] tail
unfolding cells_from
ends-cell text tail = refl

begins-blank : (tail : List ℕ) → cells_from InCell [] (32 ∷ tail) ≡ cells_from InCell (32 ∷ []) tail
unfolding cells_from
begins-blank tail = refl

cell-run : (x tail : List ℕ) → cells_from InCell [] (32 ∷ (escaped x ++ (32 ∷ 124 ∷ tail))) ≡ (x, begins_with_feed tail) ∷ cells_from (behind tail) [] tail
cell-run x tail =
    begins-blank (escaped x ++ (32 ∷ 124 ∷ tail)) ∙ text-run (32 ∷ []) x (32 ∷ 124 ∷ tail) ∙ ends-cell (32 ∷ x) tail
    ∙ ap (λ (t : List ℕ). (t, begins_with_feed tail) ∷ cells_from (behind tail) [] tail) (blanks-off x)

-- the cells of a row as they are written
abbrev cells_text : List (List ℕ) → List ℕ
cells_text [] = []
cells_text (x ∷ xs) = (124 ∷ 32 ∷ (escaped x ++ (32 ∷ []))) ++ cells_text xs

cut-cell : (x more : List ℕ) → (32 ∷ (escaped x ++ (32 ∷ []))) ++ more ≡ 32 ∷ (escaped x ++ (32 ∷ more))
cut-cell x more = ap (λ (l : List ℕ). 32 ∷ l) (append_assoc (escaped x) (32 ∷ []) more)

feed : (tail : List ℕ) → cells_from AtFeed [] (10 ∷ tail) ≡ cells_from AtPipe [] tail
unfolding cells_from
feed tail = refl

-- a row behind its first pipe
row-run : (x : List ℕ) (xs : List (List ℕ)) (tail : List ℕ)
    → cells_from InCell [] ((32 ∷ (escaped x ++ (32 ∷ []))) ++ (cells_text xs ++ (124 ∷ 10 ∷ tail))) ≡ ended (x ∷ xs) ++ cells_from AtPipe [] tail
row-run x [] tail =
    ap (cells_from InCell []) (cut-cell x (124 ∷ 10 ∷ tail)) ∙ cell-run x (10 ∷ tail) ∙ ap (λ (l : List (List ℕ × Bool)). (x, true) ∷ l) (feed tail)
row-run x (y ∷ ys) tail =
    let more = (32 ∷ (escaped y ++ (32 ∷ []))) ++ (cells_text ys ++ (124 ∷ 10 ∷ tail)) in
    let text : cells_text (y ∷ ys) ++ (124 ∷ 10 ∷ tail) ≡ 124 ∷ more = append_assoc (124 ∷ 32 ∷ (escaped y ++ (32 ∷ []))) (cells_text ys) (124 ∷ 10 ∷ tail) in
    ap (λ (t : List ℕ). cells_from InCell [] ((32 ∷ (escaped x ++ (32 ∷ []))) ++ t)) text
    ∙ ap (cells_from InCell []) (cut-cell x (124 ∷ more)) ∙ cell-run x more
    ∙ ap (λ (l : List (List ℕ × Bool)). (x, false) ∷ l) (row-run y ys tail)

pipe : (tail : List ℕ) → cells_from AtPipe [] (124 ∷ tail) ≡ cells_from InCell [] tail
unfolding cells_from
pipe tail = refl

-- a whole row
line-run : (row : List (List ℕ)) (tail : List ℕ) → HasCell row → cells_from AtPipe [] ((cells_text row ++ (124 ∷ 10 ∷ [])) ++ tail) ≡ ended row ++ cells_from AtPipe [] tail
line-run [] tail has = absurd has
line-run (x ∷ xs) tail has =
    ap (cells_from AtPipe [])
    (append_assoc (cells_text (x ∷ xs)) (124 ∷ 10 ∷ []) tail ∙ append_assoc (124 ∷ 32 ∷ (escaped x ++ (32 ∷ []))) (cells_text xs) (124 ∷ 10 ∷ tail))
    ∙ pipe ((32 ∷ (escaped x ++ (32 ∷ []))) ++ (cells_text xs ++ (124 ∷ 10 ∷ tail))) ∙ row-run x xs tail

-- the line of dashes
abbrev three_dashes : List ℕ
three_dashes = 45 ∷ 45 ∷ 45 ∷ []

dashes-run : (names : List (List ℕ)) (tail : List ℕ)
    → cells_from InCell [] (32 ∷ 45 ∷ 45 ∷ 45 ∷ 32 ∷ (flat_map (λ name. dashes) names ++ (124 ∷ 10 ∷ tail)))
    ≡ ended (three_dashes ∷ map (λ name. three_dashes) names) ++ cells_from AtPipe [] tail
unfolding cells_from
dashes-run [] tail = refl
dashes-run (name ∷ names) tail = ap (λ (l : List (List ℕ × Bool)). (three_dashes, false) ∷ l) (dashes-run names tail)

dash-line : (names : List (List ℕ)) (tail : List ℕ) → HasCell names
    → cells_from AtPipe [] ((flat_map (λ name. dashes) names ++ (124 ∷ 10 ∷ [])) ++ tail) ≡ ended (map (λ name. three_dashes) names) ++ cells_from AtPipe [] tail
dash-line [] tail has = absurd has
dash-line (name ∷ names) tail has =
    ap (cells_from AtPipe []) (append_assoc (flat_map (λ name. dashes) (name ∷ names)) (124 ∷ 10 ∷ []) tail)
    ∙ pipe (32 ∷ 45 ∷ 45 ∷ 45 ∷ 32 ∷ (flat_map (λ name. dashes) names ++ (124 ∷ 10 ∷ tail))) ∙ dashes-run names tail

-- ---- the table

names-text : (first only : Bool) (names : List (List ℕ)) → name_pieces Markdown first only names ≡ cells_text names
names-text first only [] = refl
names-text first only (name ∷ names) = ap (λ (l : List ℕ). (124 ∷ 32 ∷ (escaped name ++ (32 ∷ []))) ++ l) (names-text false only names)

pieces-text : (first only : Bool) (names : List (List ℕ)) (row : List (Option (List ℕ))) → length row ≡ length names
    → pieces Markdown first only names row ≡ cells_text (map text_of row)
pieces-text first only [] [] same = refl
pieces-text first only [] (cell ∷ cells) same = absurd (omega (arith, same))
pieces-text first only (name ∷ names) [] same = absurd (omega (arith, same))
pieces-text first only (name ∷ names) (cell ∷ cells) same =
    ap (λ (l : List ℕ). (124 ∷ 32 ∷ (escaped (text_of cell) ++ (32 ∷ []))) ++ l) (pieces-text false only names cells (omega (arith, same)))

rows-run : (names : List (List ℕ)) (first : Bool) (rows : List (List (Option (List ℕ)))) → 0 < length names → AllByRecursion (λ row. length row ≡ length names) rows
    → AllByRecursion HasCell (map (map text_of) rows) → cells_from AtPipe [] (rows_text Markdown names first rows ++ []) ≡ flat_map ended (map (map text_of) rows)
unfolding cells_from
rows-run names first [] some same has = refl
rows-run names first (row ∷ rows) some same has =
    let more = rows_text Markdown names false rows ++ [] in
    ap (cells_from AtPipe [])
    (append_assoc (row_text Markdown names first row) (rows_text Markdown names false rows) []
    ∙ ap (λ (l : List ℕ). (l ++ (124 ∷ 10 ∷ [])) ++ more) (pieces-text true (is_single names) names row same.0))
    ∙ line-run (map text_of row) more has.0
    ∙ ap (λ (l : List (List ℕ × Bool)). ended (map text_of row) ++ l) (rows-run names false rows some same.1 has.1)

-- what stands behind the names' line
abbrev behind_names : List (List ℕ) → List (List (Option (List ℕ))) → List ℕ
behind_names names rows = (flat_map (λ name. dashes) names ++ (124 ∷ 10 ∷ [])) ++ (rows_text Markdown names true rows ++ [])

cut-head : (names : List (List ℕ)) (rows : List (List (Option (List ℕ)))) → table_text Markdown names rows ≡ (cells_text names ++ (124 ∷ 10 ∷ [])) ++ behind_names names rows
cut-head names rows =
    let end : List ℕ = flat_map (λ name. dashes) names ++ (124 ∷ 10 ∷ []) in
    let more : List ℕ = rows_text Markdown names true rows ++ [] in
    ap (λ (l : List ℕ). (l ++ (124 ∷ 10 ∷ end)) ++ more) (names-text true (is_single names) names)
    ∙ append_assoc (cells_text names) (124 ∷ 10 ∷ end) more ∙ sym (append_assoc (cells_text names) (124 ∷ 10 ∷ []) (end ++ more))

table-run : (names : List (List ℕ)) (rows : List (List (Option (List ℕ)))) → 0 < length names → AllByRecursion (λ row. length row ≡ length names) rows
    → cells_from AtPipe [] (table_text Markdown names rows) ≡ flat_map ended (names ∷ map (λ name. three_dashes) names ∷ map (map text_of) rows)
table-run names rows some same =
    ap (cells_from AtPipe []) (cut-head names rows) ∙ line-run names (behind_names names rows) (has-names names some)
    ∙ ap (λ (l : List (List ℕ × Bool)). ended names ++ l)
    (dash-line names (rows_text Markdown names true rows ++ []) (has-names names some)
    ∙ ap (λ (l : List (List ℕ × Bool)). ended (map (λ name. three_dashes) names) ++ l) (rows-run names true rows some same (has-cells names rows some same)))

has-dashes : (names : List (List ℕ)) → 0 < length names → HasCell (map (λ name. three_dashes) names)
has-dashes [] some = absurd (omega (arith, some))
has-dashes (name ∷ names) some = tt

pub markdown-reads-back : MarkdownReadsBack
markdown-reads-back names rows table =
    let same = recursion_from_All (λ row. length row ≡ length names) rows table.1 in
    let all : List (List (List ℕ)) = names ∷ map (λ name. three_dashes) names ∷ map (map text_of) rows in
    ap (λ (l : List (List ℕ × Bool)). without_second (map (map (λ cell. cell.0)) (rows_of (λ cell. cell.1) l))) (table-run names rows table.0 same)
    ∙ ap without_second (rows-ended all (has-names names table.0, (has-dashes names table.0, has-cells names rows table.0 same)))
