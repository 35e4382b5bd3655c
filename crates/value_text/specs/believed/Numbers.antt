-- Decimal numbers as model files spell them: an optional sign, 1 to 28 digits, and optionally a
-- point with 1 to 9 digits. A number is kept as an integer scaled by 10^9. (This project's rule.)
use Rattle.std.specs.Prelude.{ℕ, ◌-◌, ◌*◌, ◌^◌, pos, neg_ℤ, Bool, true, false, ◌&&◌, ◌||◌, not, List, []}
use Rattle.std.specs.Prelude.{◌∷◌, ◌++◌, length, ◌==◌, nat_le, nat_lt, if◌then◌else◌, Option, Some, None}
use Rattle.std.specs.List.{before_first, after_first, list_all, list_any}
use Rattle.std.specs.Char.{is_ascii_digit}
use Rattle.std.specs.Str.Parse.{digits_value}
use Rattle.value_text.specs.declared.fixed.FixedAnswer.{FixedAnswer}
use Rattle.value_text.specs.declared.fixed.FixedAnswer.TheVariants.{Number, NotNumber, TooWide}

-- one or more digits
abbrev pub is_digits : List ℕ → Bool
is_digits text = nat_lt 0 (length text) && list_all is_ascii_digit text

-- the text without its sign, and whether the sign is a minus
abbrev pub without_sign : List ℕ → List ℕ
without_sign [] = []
without_sign (b ∷ rest) = if (b == 43) || (b == 45) then rest else b ∷ rest

abbrev pub is_minus : List ℕ → Bool
is_minus [] = false
is_minus (b ∷ rest) = b == 45

-- the digits before the point, whether there is a point, and the digits behind it
abbrev pub is_point : ℕ → Bool
is_point b = b == 46

abbrev pub whole_digits : List ℕ → List ℕ
whole_digits text = before_first is_point (without_sign text)

abbrev pub has_point : List ℕ → Bool
has_point text = list_any is_point (without_sign text)

abbrev pub decimal_digits : List ℕ → List ℕ
decimal_digits text = after_first is_point (without_sign text)

-- a sign if any, digits, and if there is a point digits behind it
abbrev pub is_decimal : List ℕ → Bool
is_decimal text = is_digits (whole_digits text) && (not (has_point text) || is_digits (decimal_digits text))

-- the size of the number that the digits write, scaled by 10^9
abbrev pub scaled_size : List ℕ → ℕ
scaled_size text = digits_value 10 (whole_digits text ++ decimal_digits text) * 10 ^ (9 - length (decimal_digits text))

-- the number that a text spells, scaled by 10^9; or that it spells none, or one with too many digits
abbrev pub number_of : List ℕ → FixedAnswer
number_of text =
    if not (is_decimal text) then NotNumber
    else if nat_lt 28 (length (whole_digits text)) || nat_lt 9 (length (decimal_digits text)) then TooWide
    else Number (if is_minus text then neg_ℤ (pos (scaled_size text)) else pos (scaled_size text))

-- whether a text is a number
abbrev pub is_number : List ℕ → Bool
is_number text = is_found (number_of text)
  where
    is_found : FixedAnswer → Bool
    is_found (Number n) = true
    is_found NotNumber = false
    is_found TooWide = false

-- the count that 1 to 20 digits write, where it lies in the range
abbrev pub count_of : List ℕ → ℕ → ℕ → Option ℕ
count_of text least most =
    if is_digits text && nat_le (length text) 20 && nat_le least (digits_value 10 text) && nat_le (digits_value 10 text) most
    then Some (digits_value 10 text) else None
