-- How long a table is whose cells tabs part: at most twice as long as the one whose cells commas part, and some bytes.
use Rattle.std.proofs.Common.{◌≡◌, ◌≤◌, ◌^◌, ◌*◌, ◌+◌, ◌-◌, ◌==◌, ◌⊎◌, ℕ, suc, Bool, true, false, None, ◌&&◌, if◌then◌else◌, List, [], ◌∷◌, ◌++◌, length, map, refl, inl, inr, arith, length-append}
use Rattle.std.proofs.lemmas.Bool.{cases_Bool}
use Rattle.std.proofs.lemmas.List.{length-map, length-replicate}
use Rattle.model_lex.specs.believed.Lines.{without_mark}
use Rattle.model_lex.proofs.OrderMark.{unmarked_within}
use Rattle.comma_rows.specs.declared.position.Position.{Position}
use Rattle.comma_rows.specs.declared.action.Place.{Place}
use Rattle.comma_rows.specs.declared.action.Place.TheVariants.{LineStart, CellStart, InText, InQuotes, AfterQuote}
use Rattle.comma_rows.specs.declared.action.Action.{Action}
use Rattle.comma_rows.specs.declared.action.Action.TheVariants.{Skips, Passes, Adds, EndsCell, EndsRow, Stops}
use Rattle.comma_rows.specs.believed.Positions.{first_place, is_inside, next}
use Rattle.comma_rows.specs.believed.Actions.{action_of}
use Rattle.comma_rows.specs.believed.Reading.{Cell, Reading, at_end, begins_with_feed, comma_cells, follow, read}
use Rattle.jeldroft_files.specs.believed.Tables.{cell_text, ending, next_line, parting, shown, shown_byte, tabbed, tabbed_from}

-- ---- one cell

shown_within : (starts : Bool) (cell : Cell) → length (shown starts cell) ≤ length cell.text + 1
shown_within starts cell = go starts cell.ends_row (length cell.text == 0)
  where
    go : (starts ends empty : Bool) → length (if starts && (ends && empty) then 32 ∷ [] else map shown_byte cell.text) ≤ length cell.text + 1
    go true true true = omega arith
    go true true false = omega (arith, length-map cell.text shown_byte)
    go true false empty = omega (arith, length-map cell.text shown_byte)
    go false ends empty = omega (arith, length-map cell.text shown_byte)

-- the first cell of a row, and a later one
starts_row : (line : ℕ) (at : Position) (text : List ℕ)
    → length (cell_text true line (record { at = at; text = text; ends_row = true })) ≤ (at.line - line) + length text + 2
starts_row line at text =
    let cell : Cell = record { at = at; text = text; ends_row = true } in
    omega (arith, length-append (parting true line cell) (shown true cell ++ ending cell), length-append (shown true cell) (ending cell), shown_within true cell, length-replicate {A = ℕ} (at.line - line) 10)

starts_cell : (line : ℕ) (at : Position) (text : List ℕ)
    → length (cell_text true line (record { at = at; text = text; ends_row = false })) ≡ (at.line - line) + length text
starts_cell line at text =
    let cell : Cell = record { at = at; text = text; ends_row = false } in
    omega (arith, length-append (parting true line cell) (map shown_byte text ++ []), length-append (map shown_byte text) [], length-map text shown_byte, length-replicate {A = ℕ} (at.line - line) 10)

later_row : (line : ℕ) (at : Position) (text : List ℕ)
    → length (cell_text false line (record { at = at; text = text; ends_row = true })) ≡ length text + 2
later_row line at text = omega (arith, length-append (map shown_byte text) (10 ∷ []), length-map text shown_byte)

later_cell : (line : ℕ) (at : Position) (text : List ℕ)
    → length (cell_text false line (record { at = at; text = text; ends_row = false })) ≡ length text + 1
later_cell line at text = omega (arith, length-append (map shown_byte text) [], length-map text shown_byte)

behind : (starts : Bool) (line : ℕ) (cell : Cell) (cells : List Cell)
    → length (tabbed_from starts line (cell ∷ cells)) ≡ length (cell_text starts line cell) + length (tabbed_from cell.ends_row (next_line starts line cell) cells)
unfolding tabbed_from
behind starts line cell cells = length-append (cell_text starts line cell) (tabbed_from cell.ends_row (next_line starts line cell) cells)

nothing : (starts : Bool) (line : ℕ) → length (tabbed_from starts line []) ≡ 0
unfolding tabbed_from
nothing starts line = refl

-- ---- a reading

-- a line feed is the only byte that begins a line
pub next_within : (byte : ℕ) (at : Position) → (at.line ≤ (next byte at).line) × ((next byte at).line ≤ at.line + 1)
next_within byte at = go (cases_Bool (byte == 10)) (cases_Bool (is_inside byte))
  where
    go : ((byte == 10) ≡ true) ⊎ ((byte == 10) ≡ false) → (is_inside byte ≡ true) ⊎ (is_inside byte ≡ false)
        → (at.line ≤ (next byte at).line) × ((next byte at).line ≤ at.line + 1)
    go (inl feed) k = rw feed (omega arith, omega arith)
    go (inr other) (inl inside) = rw (other, inside) (omega arith, omega arith)
    go (inr other) (inr outside) = rw (other, outside) (omega arith, omega arith)

-- what is written from a line on for cells that are read from so many bytes, and for the text of the cell at hand
abbrev IsShort : Bool → ℕ → ℕ → List ℕ → ℕ → Reading → Type 0
IsShort starts line at text count reading = length (tabbed_from starts line reading.cells) ≤ 2 * count + length text + (at - line) + 3

last_short : (begun at : Position) (text : List ℕ) (starts : Bool) (line : ℕ) → begun.line ≤ at.line
    → IsShort starts line at.line text 0 (record { cells = record { at = begun; text = text; ends_row = true } ∷ []; fault = None })
last_short begun at text true line before =
    omega (
      arith,
      starts_row line begun text,
      nothing true (line + (begun.line - line) + 1),
      behind true line (record { at = begun; text = text; ends_row = true }) [],
    )
last_short begun at text false line before =
    omega (
      arith,
      later_row line begun text,
      nothing true (line + 1),
      behind false line (record { at = begun; text = text; ends_row = true }) [],
    )

end_short : (place : Place) (begun at : Position) (text : List ℕ) (starts : Bool) (line : ℕ) → begun.line ≤ at.line
    → IsShort starts line at.line text 0 (at_end place begun text)
end_short LineStart begun at text starts line before = omega (arith, nothing starts line)
end_short InQuotes begun at text starts line before = omega (arith, nothing starts line)
end_short CellStart begun at text starts line before = last_short begun at text starts line before
end_short InText begun at text starts line before = last_short begun at text starts line before
end_short AfterQuote begun at text starts line before = last_short begun at text starts line before

step_short : (action : Action) (byte : ℕ) (begun at after : Position) (text : List ℕ) (starts : Bool) (line count : ℕ) (rest : Place → Position → List ℕ → Reading)
    → begun.line ≤ at.line → at.line ≤ after.line → after.line ≤ at.line + 1
    → ((place : Place) (begun : Position) (text : List ℕ) (starts : Bool) (line : ℕ) → begun.line ≤ after.line → IsShort starts line after.line text count (rest place begun text))
    → IsShort starts line at.line text (suc count) (follow action byte begun at after text rest)
step_short Skips byte begun at after text starts line count rest before on most goes =
    let more = goes LineStart after text starts line (omega arith) in omega arith
step_short (Passes place) byte begun at after text starts line count rest before on most goes =
    let more = goes place begun text starts line (omega arith) in omega arith
step_short (Adds place) byte begun at after text starts line count rest before on most goes =
    let more = goes place begun (text ++ byte ∷ []) starts line (omega arith) in omega (arith, length-append text (byte ∷ []))
step_short EndsCell byte begun at after text true line count rest before on most goes =
    let more = goes CellStart after [] false (line + (begun.line - line)) (omega arith) in
    omega (
      arith,
      more,
      starts_cell line begun text,
      behind true line (record { at = begun; text = text; ends_row = false }) (rest CellStart after []).cells,
    )
step_short EndsCell byte begun at after text false line count rest before on most goes =
    let more = goes CellStart after [] false line (omega arith) in
    omega (
      arith,
      more,
      later_cell line begun text,
      behind false line (record { at = begun; text = text; ends_row = false }) (rest CellStart after []).cells,
    )
step_short EndsRow byte begun at after text true line count rest before on most goes =
    let more = goes LineStart after [] true (line + (begun.line - line) + 1) (omega arith) in
    omega (
      arith,
      more,
      starts_row line begun text,
      behind true line (record { at = begun; text = text; ends_row = true }) (rest LineStart after []).cells,
    )
step_short EndsRow byte begun at after text false line count rest before on most goes =
    let more = goes LineStart after [] true (line + 1) (omega arith) in
    omega (
      arith,
      more,
      later_row line begun text,
      behind false line (record { at = begun; text = text; ends_row = true }) (rest LineStart after []).cells,
    )
step_short (Stops cause) byte begun at after text starts line count rest before on most goes = omega (arith, nothing starts line)

read_short : (place : Place) (begun at : Position) (text bytes : List ℕ) (starts : Bool) (line : ℕ) → begun.line ≤ at.line
    → IsShort starts line at.line text (length bytes) (read place begun at text bytes)
unfolding read
read_short place begun at text [] starts line before = end_short place begun at text starts line before
read_short place begun at text (byte ∷ bytes) starts line before =
    step_short (action_of place byte (begins_with_feed bytes)) byte begun at (next byte at) text starts line (length bytes)
    (λ place begun text. read place begun (next byte at) text bytes) before (next_within byte at).0 (next_within byte at).1
    (λ place begun text starts line before. read_short place begun (next byte at) text bytes starts line before)

-- a table of as many bytes as a file of rows may have
pub tabbed_short : (bytes : List ℕ) → length bytes ≤ 2 ^ 26 → length (tabbed (comma_cells bytes).cells) ≤ 2 ^ 28
tabbed_short bytes few =
    let short = read_short LineStart first_place first_place [] (without_mark bytes) true 1 (omega arith) in
    omega (arith, few, short, unmarked_within bytes)
