-- How a cell of csv and what ends it read.
use Rattle.std.proofs.Common.{◌≡◌, ◌⊎◌, ◌==◌, ℕ, Bool, true, false, List, [], ◌∷◌, ◌++◌, ◌∙◌, refl, sym, ap, subst, inl, inr, append_assoc, append-nil}
use Rattle.std.specs.Prelude.{◌&&◌, flat_map, length, nat_eq}
use Rattle.std.specs.List.{list_any, starts_with}
use Rattle.model_lex.specs.believed.Lines.{byte_order_mark}
use Rattle.std.proofs.lemmas.Bool.{cases_Bool, eqb-true, or_parts}
use Rattle.comma_rows.specs.declared.position.Position.{Position}
use Rattle.comma_rows.specs.declared.action.Place.{Place}
use Rattle.comma_rows.specs.declared.action.Place.TheVariants.{LineStart, CellStart, InText, InQuotes, AfterQuote}
use Rattle.comma_rows.specs.declared.action.Action.TheVariants.{Adds}
use Rattle.comma_rows.specs.believed.Positions.{next}
use Rattle.comma_rows.specs.believed.Actions.{adds_text, action_of, outside_quotes}
use Rattle.comma_rows.specs.believed.Reading.{Reading, begins_with_feed, read, with_cell}
use Rattle.comma_rows.proofs.ReadSteps.{read-byte}
use Rattle.row_forms.specs.believed.Csv.{csv_cell, doubled, has_blank_end, is_mark, needs_quotes, quoted}

-- the places at which a cell may begin, at which a comma may end it, and at which the end of a line may
abbrev pub begins_cell : Place → Bool
begins_cell LineStart = true
begins_cell CellStart = true
begins_cell InText = false
begins_cell InQuotes = false
begins_cell AfterQuote = false

abbrev pub ends_cell : Place → Bool
ends_cell LineStart = true
ends_cell CellStart = true
ends_cell InText = true
ends_cell InQuotes = false
ends_cell AfterQuote = true

abbrev pub ends_row : Place → Bool
ends_row LineStart = false
ends_row CellStart = true
ends_row InText = true
ends_row InQuotes = false
ends_row AfterQuote = true

-- a byte that calls for no quotes is text
plain-byte : (place : Place) (byte : ℕ) (feed : Bool) → is_mark byte ≡ false → outside_quotes place byte feed ≡ adds_text place
plain-byte place byte feed plain =
    let a = or_parts _ (byte == 10) plain in
    let b = or_parts _ (byte == 13) a.0 in
    let c = or_parts (byte == 44) (byte == 34) b.0 in
    rw (c.0, a.1, b.1, c.1) refl

-- bytes that call for no quotes, in a cell
plain-run : (begun at : Position) (text x tail : List ℕ) → list_any is_mark x ≡ false
    → (after : Position) × (read InText begun at text (x ++ tail) ≡ read InText begun after (text ++ x) tail)
plain-run begun at text [] tail plain = (at, ap (λ (t : List ℕ). read InText begun at t tail) (sym (append-nil text)))
plain-run begun at text (byte ∷ x) tail plain =
    let parts = or_parts (is_mark byte) _ plain in
    let rest = plain-run begun (next byte at) (text ++ (byte ∷ [])) x tail parts.1 in (
      rest.0,
      read-byte InText begun at text byte (x ++ tail) (Adds InText) (plain-byte InText byte (begins_with_feed (x ++ tail)) parts.0)
          ∙ rest.1 ∙ ap (λ (t : List ℕ). read InText begun rest.0 t tail) (append_assoc text (byte ∷ []) x),
    )

-- a byte that is no quote, between quotes
quoted-byte : (begun at : Position) (text : List ℕ) (byte : ℕ) (bytes : List ℕ) → (byte == 34) ≡ false
    → read InQuotes begun at text (byte ∷ bytes) ≡ read InQuotes begun (next byte at) (text ++ (byte ∷ [])) bytes
quoted-byte begun at text byte bytes other = read-byte InQuotes begun at text byte bytes (Adds InQuotes) (rw other refl)

two-quotes : (begun at : Position) (text bytes : List ℕ)
    → read InQuotes begun at text (34 ∷ 34 ∷ bytes) ≡ read InQuotes begun (next 34 (next 34 at)) (text ++ (34 ∷ [])) bytes
unfolding read
two-quotes begun at text bytes = refl

closes : (begun at : Position) (text tail : List ℕ) → read InQuotes begun at text (34 ∷ tail) ≡ read AfterQuote begun (next 34 at) text tail
unfolding read
closes begun at text tail = refl

-- a cell between quotes, and the quote that ends it
quoted-run : (begun at : Position) (text x tail : List ℕ)
    → (after : Position) × (read InQuotes begun at text (flat_map doubled x ++ (34 ∷ tail)) ≡ read AfterQuote begun after (text ++ x) tail)
quoted-run begun at text [] tail = (next 34 at, closes begun at text tail ∙ ap (λ (t : List ℕ). read AfterQuote begun (next 34 at) t tail) (sym (append-nil text)))
quoted-run begun at text (byte ∷ x) tail = elim (cases_Bool (byte == 34)) [
  | inl same ↦
      let rest = quoted-run begun (next 34 (next 34 at)) (text ++ (34 ∷ [])) x tail in (
        rest.0,
        subst (λ (b : ℕ). read InQuotes begun at text (flat_map doubled (b ∷ x) ++ (34 ∷ tail)) ≡ read AfterQuote begun rest.0 (text ++ (b ∷ x)) tail) (sym (eqb-true byte 34 same))
            (two-quotes begun at text (flat_map doubled x ++ (34 ∷ tail)) ∙ rest.1
            ∙ ap (λ (t : List ℕ). read AfterQuote begun rest.0 t tail) (append_assoc text (34 ∷ []) x)),
      )
  | inr other ↦
      let rest = quoted-run begun (next byte at) (text ++ (byte ∷ [])) x tail in (
        rest.0,
        rw other (quoted-byte begun at text byte (flat_map doubled x ++ (34 ∷ tail)) other ∙ rest.1
            ∙ ap (λ (t : List ℕ). read AfterQuote begun rest.0 t tail) (append_assoc text (byte ∷ []) x)),
      )
]

-- a quote begins a cell
opens : (place : Place) (at : Position) (tail : List ℕ) → begins_cell place ≡ true → read place at at [] (34 ∷ tail) ≡ read InQuotes at (next 34 at) [] tail
unfolding read
opens LineStart at tail begins = refl
opens CellStart at tail begins = refl
opens InText at tail begins = cc begins
opens InQuotes at tail begins = cc begins
opens AfterQuote at tail begins = cc begins

-- a cell was read from a place on: its text stands at a place at which it may end
pub record CellRun (from : Place) (only : Bool) (before : Reading) (begun : Position) (text tail : List ℕ) : Type 0 where
  pub place : Place
  pub after : Position
  pub reads : before ≡ read place begun after text tail
  pub comma : ends_cell place ≡ true
  pub line : (ends_row from ≡ true) ⊎ (only ≡ true) → ends_row place ≡ true

quoted-cell : (place : Place) (at : Position) (only : Bool) (cell tail : List ℕ) → begins_cell place ≡ true
    → CellRun place only (read place at at [] (quoted cell ++ tail)) at cell tail
quoted-cell place at only cell tail begins =
    let run = quoted-run at (next 34 at) [] cell tail in
    record {
      place = AfterQuote;
      after = run.0;
      reads =
          ap (λ (t : List ℕ). read place at at [] (34 ∷ t)) (append_assoc (flat_map doubled cell) (34 ∷ []) tail)
          ∙ opens place at (flat_map doubled cell ++ (34 ∷ tail)) begins ∙ run.1;
      comma = refl;
      line = λ _. refl;
    }

-- where a cell may begin, text begins one
outside : (place : Place) (byte : ℕ) (bytes : List ℕ) → begins_cell place ≡ true → is_mark byte ≡ false
    → action_of place byte (begins_with_feed bytes) ≡ Adds InText
outside LineStart byte bytes begins plain = plain-byte LineStart byte (begins_with_feed bytes) plain
outside CellStart byte bytes begins plain = plain-byte CellStart byte (begins_with_feed bytes) plain
outside InText byte bytes begins plain = cc begins
outside InQuotes byte bytes begins plain = cc begins
outside AfterQuote byte bytes begins plain = cc begins

begins-ends : (place : Place) → begins_cell place ≡ true → ends_cell place ≡ true
begins-ends LineStart begins = refl
begins-ends CellStart begins = refl
begins-ends InText begins = cc begins
begins-ends InQuotes begins = cc begins
begins-ends AfterQuote begins = cc begins

marks-none : (only first : Bool) (cell : List ℕ) → needs_quotes only first cell ≡ false → list_any is_mark cell ≡ false
marks-none only first cell plain =
    (or_parts (list_any is_mark cell) (has_blank_end cell) (or_parts _ (only && (length cell == 0)) (or_parts _ (first && starts_with nat_eq cell byte_order_mark) plain).0).0).0

plain-cell : (place : Place) (at : Position) (only first : Bool) (cell tail : List ℕ) → begins_cell place ≡ true → needs_quotes only first cell ≡ false
    → CellRun place only (read place at at [] (cell ++ tail)) at cell tail
plain-cell place at only first [] tail begins plain = record {
  place = place;
  after = at;
  reads = refl;
  comma = begins-ends place begins;
  line = line;
}
  where
    line : (ends_row place ≡ true) ⊎ (only ≡ true) → ends_row place ≡ true
    line (inl ends) = ends
    line (inr alone) = cc (rw alone at plain)
plain-cell place at only first (byte ∷ x) tail begins plain =
    let parts = or_parts (is_mark byte) _ (marks-none only first (byte ∷ x) plain) in
    let run = plain-run at (next byte at) (byte ∷ []) x tail parts.1 in
    record {
      place = InText;
      after = run.0;
      reads = read-byte place at at [] byte (x ++ tail) (Adds InText) (outside place byte (x ++ tail) begins parts.0) ∙ run.1;
      comma = refl;
      line = λ _. refl;
    }

pub cell-run : (place : Place) (at : Position) (only first : Bool) (cell tail : List ℕ) → begins_cell place ≡ true
    → CellRun place only (read place at at [] (csv_cell only first cell ++ tail)) at cell tail
cell-run place at only first cell tail begins = elim (cases_Bool (needs_quotes only first cell)) [
  | inl needs ↦ rw needs (quoted-cell place at only cell tail begins)
  | inr plain ↦ rw plain (plain-cell place at only first cell tail begins plain)
]

-- a comma ends the cell
pub comma-ends : (place : Place) (begun at : Position) (text tail : List ℕ) → ends_cell place ≡ true
    → read place begun at text (44 ∷ tail) ≡ with_cell (record { at = begun; text = text; ends_row = false }) (read CellStart (next 44 at) (next 44 at) [] tail)
unfolding read
comma-ends LineStart begun at text tail ends = refl
comma-ends CellStart begun at text tail ends = refl
comma-ends InText begun at text tail ends = refl
comma-ends InQuotes begun at text tail ends = cc ends
comma-ends AfterQuote begun at text tail ends = refl

-- a carriage return and a line feed end the row
pub line-ends : (place : Place) (begun at : Position) (text tail : List ℕ) → ends_row place ≡ true
    → read place begun at text (13 ∷ 10 ∷ tail)
    ≡ with_cell (record { at = begun; text = text; ends_row = true }) (read LineStart (next 10 (next 13 at)) (next 10 (next 13 at)) [] tail)
unfolding read
line-ends LineStart begun at text tail ends = cc ends
line-ends CellStart begun at text tail ends = refl
line-ends InText begun at text tail ends = refl
line-ends InQuotes begun at text tail ends = cc ends
line-ends AfterQuote begun at text tail ends = refl
