-- A cell of comma-separated values. (RFC 4180, section 2; which cells stand in quotes is this project's rule.)
use Rattle.std.specs.Prelude.{ℕ, ◌-◌, Bool, ◌&&◌, ◌||◌, List, [], ◌∷◌, ◌++◌, flat_map, length, ◌==◌, nat_eq, slice_index, if◌then◌else◌}
use Rattle.std.specs.List.{list_any, starts_with}
use Rattle.model_lex.specs.believed.Lines.{byte_order_mark}

-- a comma, a quote, a carriage return or a line feed
abbrev pub is_mark : ℕ → Bool
is_mark byte = (byte == 44) || (byte == 34) || (byte == 13) || (byte == 10)

abbrev pub is_blank : ℕ → Bool
is_blank byte = (byte == 32) || (byte == 9)

abbrev pub has_blank_end : List ℕ → Bool
has_blank_end cell = is_blank (slice_index cell 0) || is_blank (slice_index cell (length cell - 1))

-- whether a cell stands in quotes: it has a mark, or a blank at an end; or it is empty and alone in its line; or it
-- is the first of the text and begins with a byte-order mark
abbrev pub needs_quotes : Bool → Bool → List ℕ → Bool
needs_quotes alone first cell =
    list_any is_mark cell || has_blank_end cell || (alone && (length cell == 0)) || (first && starts_with nat_eq cell byte_order_mark)

-- a quote in it is doubled
abbrev pub doubled : ℕ → List ℕ
doubled byte = if byte == 34 then 34 ∷ 34 ∷ [] else byte ∷ []

abbrev pub quoted : List ℕ → List ℕ
quoted cell = 34 ∷ (flat_map doubled cell ++ 34 ∷ [])

abbrev pub csv_cell : Bool → Bool → List ℕ → List ℕ
csv_cell alone first cell = if needs_quotes alone first cell then quoted cell else cell
