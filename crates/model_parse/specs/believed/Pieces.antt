-- How the lines of parameters and groups are cut. (PICT's guide; the details are this project's rules.)
use Rattle.std.specs.Prelude.{ℕ, ◌-◌, Bool, not, ◌&&◌, ◌||◌, List, map, length, take, ◌==◌, nat_lt, slice_index}
use Rattle.std.specs.List.{list_all, list_any, slice_split}
use Rattle.std.specs.Str.{chars}
use Rattle.model_lex.specs.believed.Blanks.{trimmed}
use Rattle.cov_model.specs.believed.Names.{is_plain}

-- whether a byte is this mark
abbrev pub is_byte : ℕ → ℕ → Bool
is_byte mark byte = byte == mark

-- the parts of a text between a mark, each trimmed
abbrev pub pieces : ℕ → List ℕ → List (List ℕ)
pieces mark text = map trimmed (slice_split (is_byte mark) text)

-- whether a text begins or ends with a mark
abbrev pub begins_with : ℕ → List ℕ → Bool
begins_with mark text = nat_lt 0 (length text) && (slice_index text 0 == mark)

abbrev pub ends_with_byte : ℕ → List ℕ → Bool
ends_with_byte mark text = nat_lt 0 (length text) && (slice_index text (length text - 1) == mark)

-- a text without its last byte
abbrev pub before_end : List ℕ → List ℕ
before_end text = take (length text - 1) text

-- a control character or a byte-order mark stands in a text, so that it is no name
abbrev pub is_unfit : List ℕ → Bool
is_unfit text = not (list_all is_plain text) || list_any (λ c. c == 0xfeff) (chars text)
