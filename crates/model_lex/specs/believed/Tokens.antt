-- The tokens of constraint lines: names in brackets, texts in quotes, numbers, words, relations and
-- marks. (PICT's guide; quoting and codes are this project's rules.)
use Rattle.std.specs.Prelude.{ℕ, ◌+◌, ◌-◌, ◌<◌, Bool, ◌&&◌, ◌||◌, List, [], ◌∷◌, length, drop}
use Rattle.std.specs.Prelude.{Option, Some, None, Result, Ok, Err, ◌==◌, slice_index, if◌then◌else◌, codes}
use Rattle.std.specs.Char.{is_ascii_digit, is_ascii_alphabetic, is_ascii_alphanumeric}
use Rattle.std.specs.List.{list_any, take_while}
use Rattle.std.specs.Option.{option_map}
use Rattle.value_text.specs.believed.Numbers.{number_of}
use Rattle.value_text.specs.declared.fixed.FixedAnswer.{FixedAnswer}
use Rattle.value_text.specs.declared.fixed.FixedAnswer.TheVariants.{Number as IsNumber, NotNumber, TooWide}
use Rattle.model_lex.specs.believed.Blanks.{trimmed}
use Rattle.model_lex.specs.believed.Sections.{first_word, is_word_among}
use Rattle.model_lex.specs.declared.diag.DiagCode.{DiagCode}
use Rattle.model_lex.specs.declared.diag.DiagCode.TheVariants.{StrayCharacter, NameNotClosed, TextNotClosed, BadNumber, NumberTooWide, UnknownWord}
use Rattle.model_lex.specs.declared.token.TokenKind.{TokenKind}
use Rattle.model_lex.specs.declared.token.TokenKind.TheVariants.{Name, Words, Number, Word, Relation, Mark}

-- the characters that a backslash before them quotes: `"`, `]` and the backslash
abbrev pub is_quotable : ℕ → Bool
is_quotable byte = (byte == 34) || (byte == 93) || (byte == 92)

-- how many bytes stand before the first closing mark that no backslash quotes
abbrev pub quoted_len : ℕ → List ℕ → Option ℕ
quoted_len close [] = None
quoted_len close (b ∷ []) = if b == close then Some 0 else None
quoted_len close (b ∷ next ∷ rest) =
    if b == close then Some 0
    else if (b == 92) && is_quotable next then option_map (λ n. 2 + n) (quoted_len close rest)
    else option_map (λ n. 1 + n) (quoted_len close (next ∷ rest))

-- the characters that a name or a text stands for: without the backslashes that quote
abbrev pub unquoted : List ℕ → List ℕ
unquoted [] = []
unquoted (b ∷ []) = b ∷ []
unquoted (b ∷ next ∷ rest) = if (b == 92) && is_quotable next then next ∷ unquoted rest else b ∷ unquoted (next ∷ rest)

-- the name that stands between brackets
abbrev pub name_between : List ℕ → List ℕ
name_between inside = unquoted (trimmed inside)

-- a name in brackets or a text in quotes, given what follows the opening mark
abbrev pub quoted_token : TokenKind → DiagCode → Option ℕ → Result (TokenKind × ℕ) DiagCode
quoted_token kind code (Some n) = Ok (kind, 2 + n)
quoted_token kind code None = Err code

-- the run in which a number stands
abbrev pub begins_number : ℕ → Bool
begins_number byte = is_ascii_digit byte || (byte == 43) || (byte == 45)

abbrev pub is_number_byte : ℕ → Bool
is_number_byte byte = is_ascii_alphanumeric byte || (byte == 43) || (byte == 45) || (byte == 46) || (byte == 95)

abbrev pub number_run : List ℕ → List ℕ
number_run text = take_while is_number_byte text

abbrev pub number_token : ℕ → FixedAnswer → Result (TokenKind × ℕ) DiagCode
number_token len (IsNumber n) = Ok (Number, len)
number_token len NotNumber = Err BadNumber
number_token len TooWide = Err NumberTooWide

-- the words of constraints, in any case
abbrev pub keywords : List (List ℕ)
keywords =
    codes "IF" ∷ codes "THEN" ∷ codes "ELSE" ∷ codes "AND" ∷ codes "OR" ∷ codes "NOT" ∷ codes "IN" ∷ codes "LIKE"
    ∷ codes "ISNEGATIVE" ∷ codes "ISPOSITIVE" ∷ []

abbrev pub word_token : List ℕ → Result (TokenKind × ℕ) DiagCode
word_token word = if is_word_among keywords word then Ok (Word, length word) else Err UnknownWord

-- `=`, `<>`, `>`, `>=`, `<`, `<=`
abbrev pub begins_relation : ℕ → Bool
begins_relation byte = (byte == 60) || (byte == 61) || (byte == 62)

abbrev pub is_pair : ℕ → ℕ → Bool
is_pair byte next = ((byte == 60) && ((next == 61) || (next == 62))) || ((byte == 62) && (next == 61))

abbrev pub relation_len : List ℕ → ℕ
relation_len text = if is_pair (slice_index text 0) (slice_index text 1) then 2 else 1

-- `(`, `)`, `{`, `}`, `,`, `;`
abbrev pub is_punctuation : ℕ → Bool
is_punctuation byte = list_any (λ mark. mark == byte) (codes "(){},;")

-- the longest token at the start of a text, as its kind and its length, or why none stands there
abbrev pub first_token : List ℕ → Result (TokenKind × ℕ) DiagCode
first_token text =
    let byte = slice_index text 0 in
    if byte == 91 then quoted_token Name NameNotClosed (quoted_len 93 (drop 1 text))
    else if byte == 34 then quoted_token Words TextNotClosed (quoted_len 34 (drop 1 text))
    else if begins_number byte then number_token (length (number_run text)) (number_of (number_run text))
    else if is_ascii_alphabetic byte then word_token (first_word text)
    else if begins_relation byte then Ok (Relation, relation_len text)
    else if is_punctuation byte then Ok (Mark, 1)
    else Err StrayCharacter
