-- What the tokens of constraint lines mean. (PICT's guide; quoting is this project's rule.)
use Rattle.std.specs.Prelude.{◌≡◌, ℕ, zero, suc, ◌-◌, ◌⊎◌, List, [], ◌∷◌, ◌++◌, length, take, drop}
use Rattle.std.specs.Prelude.{Option, Some, None, Result, Ok, Err, ◌==◌, if◌then◌else◌, codes}
use Rattle.std.specs.Str.{str_eq_ignore_ascii_case}
use Rattle.value_text.specs.believed.Numbers.{number_of}
use Rattle.value_text.specs.declared.fixed.FixedAnswer.{FixedAnswer}
use Rattle.value_text.specs.declared.fixed.FixedAnswer.TheVariants.{Number as IsNumber, NotNumber, TooWide}
use Rattle.value_text.specs.believed.Texts.{is_blank}
use Rattle.model_lex.specs.believed.Tokens.{first_token, name_between, unquoted}
use Rattle.model_lex.specs.declared.diag.Diag.{Diag}
use Rattle.model_lex.specs.declared.diag.DiagCode.{DiagCode}
use Rattle.model_lex.specs.declared.diag.DiagCode.TheVariants.{StrayCharacter, BadNumber, NumberTooWide, UnknownWord}
use Rattle.model_lex.specs.declared.token.TokenKind.{TokenKind}
use Rattle.model_lex.specs.declared.token.TokenKind.TheVariants as kinds
use Rattle.constraint_ast.specs.believed.Trees.{RuleTree}
use Rattle.constraint_ast.specs.believed.Grammar.{AreRules, Refused, at, most_open}
use Rattle.constraint_ast.specs.declared.token.LineToken.{LineToken}
use Rattle.constraint_ast.specs.declared.token.RuleToken.{RuleToken}
use Rattle.constraint_ast.specs.declared.token.RuleToken.TheVariants.{Name, Literal, Relation, If, Then, Else, And, Or, Not, In, Like}
use Rattle.constraint_ast.specs.declared.token.RuleToken.TheVariants.{Sign, OpenParen, CloseParen, OpenBrace, CloseBrace, Comma, Semicolon}
use Rattle.constraint_ast.specs.declared.token.Sign.TheVariants.{Negative, Positive}
use Rattle.constraint_ast.specs.declared.tree.RawRel.{RawRel}
use Rattle.constraint_ast.specs.declared.tree.RawRel.TheVariants.{Eq, Ne, Gt, Ge, Lt, Le}
use Rattle.constraint_ast.specs.declared.tree.RawLiteral.TheVariants.{Words, Number}

-- the keyword that a word is, in any case
abbrev pub keyword_of : List ℕ → Option RuleToken
keyword_of word =
    if str_eq_ignore_ascii_case word (codes "IF") then Some If
    else if str_eq_ignore_ascii_case word (codes "THEN") then Some Then
    else if str_eq_ignore_ascii_case word (codes "ELSE") then Some Else
    else if str_eq_ignore_ascii_case word (codes "AND") then Some And
    else if str_eq_ignore_ascii_case word (codes "OR") then Some Or
    else if str_eq_ignore_ascii_case word (codes "NOT") then Some Not
    else if str_eq_ignore_ascii_case word (codes "IN") then Some In
    else if str_eq_ignore_ascii_case word (codes "LIKE") then Some Like
    else if str_eq_ignore_ascii_case word (codes "ISNEGATIVE") then Some (Sign Negative)
    else if str_eq_ignore_ascii_case word (codes "ISPOSITIVE") then Some (Sign Positive)
    else None

-- `=`, `>`, `<`, and `<>`, `<=`, `>=`
abbrev pub relation_of : List ℕ → Option RawRel
relation_of [] = None
relation_of (a ∷ []) = if a == 61 then Some Eq else if a == 62 then Some Gt else if a == 60 then Some Lt else None
relation_of (a ∷ b ∷ []) =
    if a == 60 then (if b == 62 then Some Ne else if b == 61 then Some Le else None)
    else if a == 62 then (if b == 61 then Some Ge else None)
    else None
relation_of (a ∷ b ∷ c ∷ rest) = None

-- `(`, `)`, `{`, `}`, `,`, `;`
abbrev pub punctuation_of : List ℕ → Option RuleToken
punctuation_of [] = None
punctuation_of (a ∷ []) =
    if a == 40 then Some OpenParen
    else if a == 41 then Some CloseParen
    else if a == 123 then Some OpenBrace
    else if a == 125 then Some CloseBrace
    else if a == 44 then Some Comma
    else if a == 59 then Some Semicolon
    else None
punctuation_of (a ∷ b ∷ rest) = None

abbrev pub or_code : {A : Type 0} → DiagCode → Option A → Result A DiagCode
or_code code (Some value) = Ok value
or_code code None = Err code

abbrev pub number_meant : FixedAnswer → Result RuleToken DiagCode
number_meant (IsNumber n) = Ok (Literal (Number n))
number_meant NotNumber = Err BadNumber
number_meant TooWide = Err NumberTooWide

abbrev pub relation_meant : Option RawRel → Result RuleToken DiagCode
relation_meant (Some rel) = Ok (Relation rel)
relation_meant None = Err StrayCharacter

-- a text without its first and its last byte
abbrev pub inside : List ℕ → List ℕ
inside text = take (length text - 2) (drop 1 text)

-- what a token of a kind with a text means: names are unquoted and trimmed, texts unquoted
abbrev pub meant : TokenKind → List ℕ → Result RuleToken DiagCode
meant kinds.Name text = Ok (Name (name_between (inside text)))
meant kinds.Words text = Ok (Literal (Words (unquoted (inside text))))
meant kinds.Number text = number_meant (number_of text)
meant kinds.Word text = or_code UnknownWord (keyword_of text)
meant kinds.Relation text = relation_meant (relation_of text)
meant kinds.Mark text = or_code StrayCharacter (punctuation_of text)

abbrev pub token_meant : List ℕ → Result (TokenKind × ℕ) DiagCode → Result RuleToken DiagCode
token_meant text (Ok (kind, len)) = meant kind (take len text)
token_meant text (Err code) = Err code

-- how long the token is, where one stands
abbrev pub token_len : Result (TokenKind × ℕ) DiagCode → ℕ
token_len (Ok (kind, len)) = len
token_len (Err code) = 0

-- a token of a line before others, or the first refusal
abbrev pub token_before : ℕ → Result RuleToken DiagCode → Result (List LineToken) Diag → Result (List LineToken) Diag
token_before line (Ok token) (Ok tokens) = Ok (at line token ∷ tokens)
token_before line (Ok token) (Err diag) = Err diag
token_before line (Err code) tokens = Err (record { line = line; code = code })

-- the tokens of a line behind so many bytes of a token, or its first refusal; blanks stand between tokens
abbrev pub tokens_in : ℕ → ℕ → List ℕ → Result (List LineToken) Diag
tokens_in line rest [] = Ok []
tokens_in line (suc rest) (byte ∷ text) = tokens_in line rest text
tokens_in line zero (byte ∷ text) =
    if is_blank byte then tokens_in line 0 text
    else token_before line (token_meant (byte ∷ text) (first_token (byte ∷ text))) (tokens_in line (token_len (first_token (byte ∷ text)) - 1) text)

abbrev pub both_tokens : Result (List LineToken) Diag → Result (List LineToken) Diag → Result (List LineToken) Diag
both_tokens (Ok tokens) (Ok others) = Ok (tokens ++ others)
both_tokens (Ok tokens) (Err diag) = Err diag
both_tokens (Err diag) others = Err diag

-- the tokens of constraint lines, each a number and a text, or the first refusal
abbrev pub tokens_of : List (ℕ × List ℕ) → Result (List LineToken) Diag
tokens_of [] = Ok []
tokens_of (line ∷ lines) = both_tokens (tokens_in line.0 0 line.1) (tokens_of lines)

-- constraint lines spell these trees
abbrev pub Spell : List (ℕ × List ℕ) → List RuleTree → Type 0
Spell lines rules = (tokens : List LineToken) × (tokens_of lines ≡ Ok tokens) × AreRules most_open tokens rules

-- constraint lines are refused: at the first token that is none, or else where the tokens can't go on
abbrev pub AreRefused : List (ℕ × List ℕ) → Diag → Type 0
AreRefused lines diag = (tokens_of lines ≡ Err diag) ⊎ ((tokens : List LineToken) × (tokens_of lines ≡ Ok tokens) × Refused most_open tokens diag)
