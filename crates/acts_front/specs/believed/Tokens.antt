-- The tokens of the constraint lines of a file in the form of ACTS. (The ACTS guide; the details are this
-- project's rules.)
use Rattle.std.specs.Prelude.{ℕ, zero, suc, ◌+◌, ◌-◌, Bool, true, false, ◌&&◌, ◌||◌, List, [], ◌∷◌, length}
use Rattle.std.specs.Prelude.{drop, take, Option, Some, None, ◌==◌, slice_index, position, if◌then◌else◌}
use Rattle.std.specs.Char.{is_ascii_digit}
use Rattle.std.specs.List.{list_any, take_while}
use Rattle.cov_model.specs.declared.constraint.Rel.{Rel}
use Rattle.cov_model.specs.declared.constraint.Rel.TheVariants.{Eq, Ne, Gt, Ge, Lt, Le}
use Rattle.value_text.specs.believed.Texts.{is_blank}
use Rattle.model_lex.specs.believed.Sections.{first_word, is_word_byte}
use Rattle.model_parse.specs.believed.Pieces.{is_byte, begins_with}
use Rattle.acts_front.specs.believed.ParameterLines.{is_false, is_true, is_whole}

-- a name, a whole number as it stands, a text without its quotes, TRUE or FALSE, a relation, `=>`, `||`, `&&`,
-- `!`, `(` and `)`
pub data Token : Type 0 where
  Name : List ℕ → Token
  Whole : List ℕ → Token
  Words : List ℕ → Token
  Truth : Bool → Token
  Relation : Rel → Token
  Arrow : Token
  Or : Token
  And : Token
  Not : Token
  Open : Token
  Close : Token

-- a token, where one stands, with its length
abbrev pub Found : Type 0
Found = Option (Token × ℕ)

-- TRUE and FALSE, in any case, are truth values and no names
abbrev pub token_of_word : List ℕ → Token
token_of_word word = if is_true word then Truth true else if is_false word then Truth false else Name word

-- the digits at the start of a text, with a minus before them if it stands there
abbrev pub whole_run : List ℕ → List ℕ
whole_run text = if begins_with 45 text then 45 ∷ take_while is_ascii_digit (drop 1 text) else take_while is_ascii_digit text

abbrev pub whole_token : List ℕ → Found
whole_token run = if is_whole run then Some (Whole run, length run) else None

-- a text in double quotes, given what stands behind the first of them and the place of the second; it has no backslash
abbrev pub words_before : List ℕ → Option ℕ → Found
words_before behind (Some len) = if list_any (is_byte 92) (take len behind) then None else Some (Words (take len behind), 2 + len)
words_before behind None = None

abbrev pub words_token : List ℕ → Found
words_token behind = words_before behind (position (is_byte 34) behind)

-- a relation or another mark, by its first two characters: the longer one is taken
abbrev pub one_of_two : ℕ → ℕ → Token → Token → Found
one_of_two next second longer shorter = if next == second then Some (longer, 2) else Some (shorter, 1)

abbrev pub mark_token : ℕ → ℕ → Found
mark_token first next =
    if first == 61 then one_of_two next 62 Arrow (Relation Eq)
    else if first == 33 then one_of_two next 61 (Relation Ne) Not
    else if first == 62 then one_of_two next 61 (Relation Ge) (Relation Gt)
    else if first == 60 then one_of_two next 61 (Relation Le) (Relation Lt)
    else if (first == 124) && (next == 124) then Some (Or, 2)
    else if (first == 38) && (next == 38) then Some (And, 2)
    else if first == 40 then Some (Open, 1)
    else if first == 41 then Some (Close, 1)
    else None

-- the token at the start of a text that isn't empty
abbrev pub first_found : List ℕ → Found
first_found text =
    let first = slice_index text 0 in
    if is_ascii_digit first || (first == 45) then whole_token (whole_run text)
    else if is_word_byte first then Some (token_of_word (first_word text), length (first_word text))
    else if first == 34 then words_token (drop 1 text)
    else mark_token first (slice_index text 1)

-- a token before others, and how many bytes of it stand behind its first
abbrev pub before_tokens : Found → Option (List Token) → Option (List Token)
before_tokens (Some (token, len)) (Some tokens) = Some (token ∷ tokens)
before_tokens (Some (token, len)) None = None
before_tokens None tokens = None

abbrev pub len_behind : Found → ℕ
len_behind (Some (token, len)) = len - 1
len_behind None = 0

-- the tokens of a text behind so many bytes of a token, where all of it are tokens with blanks between them
abbrev pub tokens_behind : ℕ → List ℕ → Option (List Token)
tokens_behind inside [] = Some []
tokens_behind (suc inside) (byte ∷ rest) = tokens_behind inside rest
tokens_behind zero (byte ∷ rest) =
    if is_blank byte then tokens_behind 0 rest
    else before_tokens (first_found (byte ∷ rest)) (tokens_behind (len_behind (first_found (byte ∷ rest))) rest)

abbrev pub tokens_found : List ℕ → Option (List Token)
tokens_found text = tokens_behind 0 text
