-- The cells of a reading stand in order: each row begins in a line behind the one that the row before began in, and the
-- last row is ended.
use Rattle.std.proofs.Common.{◌≡◌, ◌≤◌, ◌+◌, ◌==◌, ℕ, Bool, true, false, if◌then◌else◌, None, List, [], ◌∷◌, ◌++◌, refl, sym, arith}
use Rattle.std.specs.Prelude.{◌≢◌}
use Rattle.std.proofs.lemmas.Bool.{false≢true}
use Rattle.model_lex.specs.believed.Lines.{without_mark}
use Rattle.comma_rows.specs.declared.comma_fault.CommaCause.TheVariants.{LoneReturn}
use Rattle.comma_rows.specs.declared.position.Position.{Position}
use Rattle.comma_rows.specs.declared.action.Place.{Place}
use Rattle.comma_rows.specs.declared.action.Place.TheVariants.{LineStart, CellStart, InText, InQuotes, AfterQuote}
use Rattle.comma_rows.specs.declared.action.Action.{Action}
use Rattle.comma_rows.specs.declared.action.Action.TheVariants.{Skips, Passes, Adds, EndsCell, EndsRow, Stops}
use Rattle.comma_rows.specs.believed.Positions.{first_place, next}
use Rattle.comma_rows.specs.believed.Actions.{action_of, adds_text, ends_line, opens_quotes, outside_quotes, passes_return}
use Rattle.comma_rows.specs.believed.Reading.{Cell, Reading, at_end, begins_with_feed, comma_cells, follow, read}
use Rattle.jeldroft_files.specs.believed.Tables.{cell_line, next_line}
use Rattle.jeldroft_files.proofs.TabbedLength.{next_within}

-- cells, of which the first may start its row, from a line on
abbrev pub AreInOrder : Bool → ℕ → List Cell → Type 0
AreInOrder starts line [] = starts ≡ true
AreInOrder starts line (cell ∷ cells) = (starts ≡ true → line ≤ cell.at.line) × AreInOrder cell.ends_row (next_line starts line cell) cells

-- ---- one byte

-- only a line without a byte is skipped, no byte of a cell leads to the start of a line, and only a line feed ends a row
abbrev IsFine : Place → ℕ → Action → Type 0
IsFine place byte Skips = place ≡ LineStart
IsFine place byte (Passes behind) = behind ≢ LineStart
IsFine place byte (Adds behind) = behind ≢ LineStart
IsFine place byte EndsCell = Unit {0}
IsFine place byte EndsRow = (byte == 10) ≡ true
IsFine place byte (Stops cause) = Unit {0}

ends_fine : (place : Place) (byte : ℕ) → (byte == 10) ≡ true → IsFine place byte (ends_line place)
ends_fine LineStart byte feed = refl
ends_fine CellStart byte feed = feed
ends_fine InText byte feed = feed
ends_fine InQuotes byte feed = feed
ends_fine AfterQuote byte feed = feed

return_fine : (place : Place) (byte : ℕ) → IsFine place byte (passes_return place)
return_fine LineStart byte = refl
return_fine CellStart byte = λ e. cc
return_fine InText byte = λ e. cc
return_fine InQuotes byte = λ e. cc
return_fine AfterQuote byte = λ e. cc

quote_fine : (place : Place) (byte : ℕ) → IsFine place byte (opens_quotes place)
quote_fine LineStart byte = λ e. cc
quote_fine CellStart byte = λ e. cc
quote_fine InText byte = tt
quote_fine InQuotes byte = tt
quote_fine AfterQuote byte = tt

text_fine : (place : Place) (byte : ℕ) → IsFine place byte (adds_text place)
text_fine LineStart byte = λ e. cc
text_fine CellStart byte = λ e. cc
text_fine InText byte = λ e. cc
text_fine InQuotes byte = tt
text_fine AfterQuote byte = tt

outside_fine : (place : Place) (byte : ℕ) (before : Bool) → IsFine place byte (outside_quotes place byte before)
outside_fine place byte before = go (byte == 44) (byte == 10) (byte == 13) before (byte == 34) refl
  where
    go : (comma feed return before quote : Bool) → (byte == 10) ≡ feed
        → IsFine place byte (if comma then EndsCell else if feed then ends_line place else if return then (if before then passes_return place else Stops LoneReturn) else if quote then opens_quotes place else adds_text place)
    go true feed return before quote is = tt
    go false true return before quote is = ends_fine place byte is
    go false false true true quote is = return_fine place byte
    go false false true false quote is = tt
    go false false false before true is = quote_fine place byte
    go false false false before false is = text_fine place byte

action_fine : (place : Place) (byte : ℕ) (before : Bool) → IsFine place byte (action_of place byte before)
action_fine LineStart byte before = outside_fine LineStart byte before
action_fine CellStart byte before = outside_fine CellStart byte before
action_fine InText byte before = outside_fine InText byte before
action_fine InQuotes byte before = go (byte == 34)
  where
    go : (quote : Bool) → IsFine InQuotes byte (if quote then Passes AfterQuote else Adds InQuotes)
    go true = λ e. cc
    go false = λ e. cc
action_fine AfterQuote byte before = go (byte == 34)
  where
    go : (quote : Bool) → IsFine AfterQuote byte (if quote then Adds InQuotes else outside_quotes AfterQuote byte before)
    go true = λ e. cc
    go false = outside_fine AfterQuote byte before

next_line_of : (byte : ℕ) (at : Position) → (byte == 10) ≡ true → (next byte at).line ≡ at.line + 1
next_line_of byte at feed = rw feed refl

-- ---- a reading

-- where the cell at hand may start its row, and the lines that it and the next byte stand in
pub record Stands (place : Place) (begun at : ℕ) (starts : Bool) (line : ℕ) : Type 0 where
  pub inside : starts ≡ false → place ≢ LineStart
  pub first : starts ≡ true → line ≤ begun
  pub before : begun ≤ at
  pub reached : line ≤ at

within : (starts : Bool) (line : ℕ) (cell : Cell) (at : ℕ) → cell.at.line ≤ at → line ≤ at → cell_line starts line cell ≤ at
within true line cell at begun reached = omega arith
within false line cell at begun reached = reached

at_start : (starts : Bool) → (starts ≡ false → LineStart ≢ LineStart) → starts ≡ true
at_start true inside = refl
at_start false inside = absurd (inside refl refl)

end_in_order : (place : Place) (begun : Position) (text : List ℕ) (at : ℕ) (starts : Bool) (line : ℕ) → Stands place begun.line at starts line
    → (at_end place begun text).fault ≡ None → AreInOrder starts line (at_end place begun text).cells
end_in_order LineStart begun text at starts line stands sound = at_start starts stands.inside
end_in_order CellStart begun text at starts line stands sound = (stands.first, refl)
end_in_order InText begun text at starts line stands sound = (stands.first, refl)
end_in_order InQuotes begun text at starts line stands sound = absurd (cc)
end_in_order AfterQuote begun text at starts line stands sound = (stands.first, refl)

step_in_order : (action : Action) (place : Place) (byte : ℕ) (begun at after : Position) (text : List ℕ) (starts : Bool) (line : ℕ)
    (rest : Place → Position → List ℕ → Reading) → IsFine place byte action → Stands place begun.line at.line starts line
    → at.line ≤ after.line → ((byte == 10) ≡ true → after.line ≡ at.line + 1)
    → ((place : Place) (begun : Position) (text : List ℕ) (starts : Bool) (line : ℕ) → Stands place begun.line after.line starts line
    → (rest place begun text).fault ≡ None → AreInOrder starts line (rest place begun text).cells)
    → (follow action byte begun at after text rest).fault ≡ None → AreInOrder starts line (follow action byte begun at after text rest).cells
step_in_order Skips place byte begun at after text starts line rest fine stands on feed goes sound =
    let reached = stands.reached in
    goes LineStart after text starts line
    (record { inside = λ is same. stands.inside is fine; first = λ is. omega (arith, reached, on); before = omega arith; reached = omega (arith, reached, on) }) sound
step_in_order (Passes behind) place byte begun at after text starts line rest fine stands on feed goes sound =
    let reached = stands.reached in
    let before = stands.before in
    goes behind begun text starts line
    (record { inside = λ is. fine; first = stands.first; before = omega (arith, before, on); reached = omega (arith, reached, on) }) sound
step_in_order (Adds behind) place byte begun at after text starts line rest fine stands on feed goes sound =
    let reached = stands.reached in
    let before = stands.before in
    goes behind begun (text ++ byte ∷ []) starts line
    (record { inside = λ is. fine; first = stands.first; before = omega (arith, before, on); reached = omega (arith, reached, on) }) sound
step_in_order EndsCell place byte begun at after text starts line rest fine stands on feed goes sound =
    let cell : Cell = record { at = begun; text = text; ends_row = false } in
    let here = within starts line cell at.line stands.before stands.reached in (
      stands.first,
      goes CellStart after [] false (cell_line starts line cell)
          (record { inside = λ is same. cc; first = λ is. absurd (false≢true is); before = omega arith; reached = omega (arith, here, on) }) sound,
    )
step_in_order EndsRow place byte begun at after text starts line rest fine stands on feed goes sound =
    let cell : Cell = record { at = begun; text = text; ends_row = true } in
    let here = within starts line cell at.line stands.before stands.reached in
    let behind = feed fine in (
      stands.first,
      goes LineStart after [] true (cell_line starts line cell + 1)
          (record { inside = λ is. absurd (false≢true (sym is)); first = λ is. omega (arith, here, behind); before = omega arith; reached = omega (arith, here, behind) }) sound,
    )
step_in_order (Stops cause) place byte begun at after text starts line rest fine stands on feed goes sound = absurd (cc)

read_in_order : (place : Place) (begun at : Position) (text bytes : List ℕ) (starts : Bool) (line : ℕ) → Stands place begun.line at.line starts line
    → (read place begun at text bytes).fault ≡ None → AreInOrder starts line (read place begun at text bytes).cells
unfolding read
read_in_order place begun at text [] starts line stands sound = end_in_order place begun text at.line starts line stands sound
read_in_order place begun at text (byte ∷ bytes) starts line stands sound =
    step_in_order (action_of place byte (begins_with_feed bytes)) place byte begun at (next byte at) text starts line
    (λ place begun text. read place begun (next byte at) text bytes) (action_fine place byte (begins_with_feed bytes)) stands (next_within byte at).0 (next_line_of byte at)
    (λ place begun text starts line stands sound. read_in_order place begun (next byte at) text bytes starts line stands sound) sound

pub cells_in_order : (bytes : List ℕ) → (comma_cells bytes).fault ≡ None → AreInOrder true 1 (comma_cells bytes).cells
cells_in_order bytes sound =
    read_in_order LineStart first_place first_place [] (without_mark bytes) true 1
    (record { inside = λ is. absurd (false≢true (sym is)); first = λ is. omega arith; before = omega arith; reached = omega arith }) sound
