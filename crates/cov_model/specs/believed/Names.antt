-- Names and marks of a model file. (This project's rules.)
use Rattle.std.specs.Prelude.{ℕ, ◌-◌, Bool, ◌&&◌, ◌||◌, not, List, [], ◌∷◌, length, ◌==◌, nat_le, nat_lt, slice_index}
use Rattle.std.specs.List.{list_all, list_any}
use Rattle.std.specs.Str.{chars}
use Rattle.value_text.specs.believed.Texts.{is_blank}

-- a text without blanks at its ends, and with a byte
abbrev pub is_trimmed : List ℕ → Bool
is_trimmed text = nat_lt 0 (length text) && not (is_blank (slice_index text 0)) && not (is_blank (slice_index text (length text - 1)))

-- no control character
abbrev pub is_plain : ℕ → Bool
is_plain byte = not (nat_lt byte 32 || (byte == 127))

-- what a parameter or a value may be called: no blank at its ends, no control character and no
-- byte-order mark anywhere
abbrev pub is_name : List ℕ → Bool
is_name text = is_trimmed text && list_all is_plain text && not (list_any (λ c. c == 0xfeff) (chars text))

abbrev pub is_letter : ℕ → Bool
is_letter c = (nat_le 65 c && nat_le c 90) || (nat_le 97 c && nat_le c 122)

abbrev pub is_digit : ℕ → Bool
is_digit c = nat_le 48 c && nat_le c 57

-- the characters from 33 to 126 that are no mark beside letters and digits: " # ( ) : < > @ [ \ ] { }
abbrev pub reserved : List ℕ
reserved = 34 ∷ 35 ∷ 40 ∷ 41 ∷ 58 ∷ 60 ∷ 62 ∷ 64 ∷ 91 ∷ 92 ∷ 93 ∷ 123 ∷ 125 ∷ []

-- a mark: what may stand between values, between names, or before a negative value
abbrev pub is_mark : ℕ → Bool
is_mark c = nat_le 33 c && nat_le c 126 && not (is_letter c) && not (is_digit c) && not (list_any (λ r. r == c) reserved)
