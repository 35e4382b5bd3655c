-- The text of a proof file, and which proof a file holds. (This project's rule.)
use Rattle.std.specs.Prelude.{ℕ, ◌+◌, ◌-◌, ◌^◌, Bool, true, ◌&&◌, ◌||◌, not, List, [], ◌∷◌, ◌++◌, map, length, Option, Some, None, Result, Ok, Err}
use Rattle.std.specs.Prelude.{option_map, option_and_then, ◌==◌, nat_lt, nat_le, slice_index, if◌then◌else◌, decimal, codes, bytes_eq, flat_map}
use Rattle.std.specs.Option.{option_zip}
use Rattle.std.specs.List.{join_with_byte, slice_split, before_first, after_first, list_any}
use Rattle.std.specs.Str.Parse.{digits_value}
use Rattle.value_text.specs.believed.Numbers.{is_digits}
use Rattle.cov_model.specs.believed.Sound.{ModelView, param_at}
use Rattle.definitions.specs.believed.Pairs.{pair_text}
use Rattle.definitions.specs.believed.Refutation.{Token, Branch, ByRule, ByNegative, ByOmission}

-- an omitted tuple, as its pairs of parameter and value, with the tokens of its tree
pub record Omission : Type 0 where
  pub tuple : List (ℕ × ℕ)
  pub tree : List Token

-- `Bp`, `Lk`, `N` or `On`
abbrev pub token_text : Token → List ℕ
token_text (Branch p) = codes "B" ++ decimal p
token_text (ByRule k) = codes "L" ++ decimal k
token_text ByNegative = codes "N"
token_text (ByOmission n) = codes "O" ++ decimal n

-- `omit p=v p=v : tokens`, with its line feed
abbrev pub omission_line : Omission → List ℕ
omission_line omission =
    join_with_byte 32 (codes "omit" ∷ map pair_text omission.tuple ++ codes ":" ∷ map token_text omission.tree) ++ 10 ∷ []

-- the first line, which gives the format, 1 or 2
abbrev pub format_line : ℕ → List ℕ
format_line format = codes "pict-proof " ++ decimal format ++ 10 ∷ []

-- the text of a proof: its format, then its omissions in order
abbrev pub proof_text : ℕ → List Omission → List ℕ
proof_text format omissions = format_line format ++ flat_map omission_line omissions

-- the number that a text spells in decimal without leading zeros, if it passes the test
abbrev pub number_where : (ℕ → Bool) → List ℕ → Option ℕ
number_where test text =
    if is_digits text && ((length text == 1) || not (slice_index text 0 == 48)) && test (digits_value 10 text)
    then Some (digits_value 10 text) else None

-- what is read of each of the items, if all can be read
abbrev pub read_each : {X Y : Type 0} → (X → Option Y) → List X → Option (List Y)
read_each read [] = Some []
read_each read (item ∷ items) = option_map (λ both. both.0 ∷ both.1) (option_zip (read item) (read_each read items))

-- the parameter and the value that `p=v` spells: both exist
abbrev pub read_pair : ModelView → List ℕ → Option (ℕ × ℕ)
read_pair m text =
    option_and_then (λ p. option_map (λ v. (p, v)) (number_where (λ v. nat_lt v (length (param_at m.params p).values)) (after_first (λ b. b == 61) text)))
    (number_where (λ p. nat_lt p (length m.params)) (before_first (λ b. b == 61) text))

-- the token that a text spells: its parameter or constraint exists, and an omission, of format 2 alone, has
-- a number from 1 to 2^32 - 1
abbrev pub read_token : ModelView → ℕ → List ℕ → Option Token
read_token m format [] = None
read_token m format (letter ∷ text) =
    if letter == 66 then option_map Branch (number_where (λ p. nat_lt p (length m.params)) text)
    else if letter == 76 then option_map ByRule (number_where (λ k. list_any (λ rule. rule.number == k) m.rules) text)
    else if (letter == 79) && (format == 2) then option_map ByOmission (number_where (λ n. nat_le 1 n && nat_le n (2 ^ 32 - 1)) text)
    else if (letter == 78) && (length text == 0) then Some ByNegative else None

-- the parameters rise strictly
abbrev pub is_rising : List (ℕ × ℕ) → Bool
is_rising [] = true
is_rising (a ∷ []) = true
is_rising (a ∷ b ∷ pairs) = nat_lt a.0 b.0 && is_rising (b ∷ pairs)

-- an omission has one or more pairs, whose parameters rise, and one or more tokens
abbrev pub proper : List (ℕ × ℕ) × List Token → Option Omission
proper both =
    if nat_lt 0 (length both.0) && is_rising both.0 && nat_lt 0 (length both.1)
    then Some (record { tuple = both.0; tree = both.1 }) else None

-- the word that parts pairs from tokens
abbrev pub is_colon_word : List ℕ → Bool
is_colon_word word = bytes_eq word (codes ":")

-- the omission that the words of a line spell, which single spaces part
abbrev pub read_omission_words : ModelView → ℕ → List (List ℕ) → Option Omission
read_omission_words m format [] = None
read_omission_words m format (word ∷ words) =
    if bytes_eq word (codes "omit")
    then option_and_then proper (option_zip (read_each (read_pair m) (before_first is_colon_word words)) (read_each (read_token m format) (after_first is_colon_word words)))
    else None

abbrev pub read_omission : ModelView → ℕ → List ℕ → Option Omission
read_omission m format line = read_omission_words m format (slice_split (λ b. b == 32) line)

-- the omission of a line before those of the lines behind it; where either can't be read, the first line
-- that can't
abbrev pub before_lines : ℕ → Option Omission → Result (List Omission) ℕ → Result (List Omission) ℕ
before_lines n None later = Err n
before_lines n (Some omission) (Ok omissions) = Ok (omission ∷ omissions)
before_lines n (Some omission) (Err line) = Err line

-- the omissions of the lines from number n on, or the first line that spells none; the last piece is what
-- stands behind the last line feed, and a line only if it has a byte
abbrev pub read_lines : ModelView → ℕ → ℕ → List (List ℕ) → Result (List Omission) ℕ
read_lines m format n [] = Ok []
read_lines m format n (rest ∷ []) = if length rest == 0 then Ok [] else Err n
read_lines m format n (line ∷ next ∷ lines) = before_lines n (read_omission m format line) (read_lines m format (n + 1) (next ∷ lines))

-- the format that a first line gives
abbrev pub read_format : List ℕ → Option ℕ
read_format line = if bytes_eq line (codes "pict-proof 1") then Some 1 else if bytes_eq line (codes "pict-proof 2") then Some 2 else None

-- a format with the omissions that were read in it
abbrev pub with_format : ℕ → Result (List Omission) ℕ → Result (ℕ × List Omission) ℕ
with_format format (Ok omissions) = Ok (format, omissions)
with_format format (Err line) = Err line

-- the proof of a file cut at its line feeds; the first line is one only if a line feed ends it
abbrev pub read_pieces : ModelView → List (List ℕ) → Result (ℕ × List Omission) ℕ
read_pieces m [] = Err 1
read_pieces m (rest ∷ []) = Err 1
read_pieces m (line ∷ next ∷ lines) = of_format (read_format line)
  where
    of_format : Option ℕ → Result (ℕ × List Omission) ℕ
    of_format None = Err 1
    of_format (Some format) = with_format format (read_lines m format 2 (next ∷ lines))

-- the format and the omissions whose text the bytes are, or the first line that is no spelling
abbrev pub omissions_of : ModelView → List ℕ → Result (ℕ × List Omission) ℕ
omissions_of m bytes = read_pieces m (slice_split (λ b. b == 10) bytes)
