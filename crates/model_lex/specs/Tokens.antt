-- The tokens of constraint lines: names in brackets, texts in quotes, numbers, words, relations and
-- marks. (PICT's guide; quoting and codes are this project's rules.)
use Rattle.std.specs.Prelude.{◌≡◌, ℕ, ◌+◌, ◌-◌, ◌<◌, ◌≤◌, Bool, ◌&&◌, List, length, drop}
use Rattle.std.specs.Prelude.{Result, Ok, Err, ◌==◌, slice_index, if◌then◌else◌}
use Rattle.std.specs.List.{prefix_len}
use Rattle.std.specs.Str.{IsCharBoundary}
use Rattle.value_text.specs.believed.Texts.{is_blank}
use Rattle.model_lex.specs.declared.diag.DiagCode.{DiagCode}
use Rattle.model_lex.specs.declared.token.TokenKind.{TokenKind}
use Rattle.model_lex.specs.declared.token.TokenKind.TheVariants.{Name, Words}
use Rattle.model_lex.specs.declared.token.Token.{Token}
use Rattle.model_lex.specs.declared.token.Lexed.{Lexed}
use Rattle.model_lex.specs.declared.token.Lexed.TheVariants.{Token as Found, End, Bad}
use Rattle.model_lex.specs.believed.Tokens.{is_quotable, first_token}

-- whether a text begins with a backslash that quotes the byte behind it
abbrev pub quotes_next : List ℕ → Bool
quotes_next text = (slice_index text 0 == 92) && is_quotable (slice_index text 1)

-- a token that begins at a place
abbrev pub lexed_at : ℕ → Result (TokenKind × ℕ) DiagCode → Lexed
lexed_at start (Ok token) = Found (record { kind = token.0; start = start; end = start + token.1 })
lexed_at start (Err code) = Bad code

-- the token of a line behind the blanks that begin at a place, or that the line ends there
abbrev pub token_at : List ℕ → ℕ → Lexed
token_at line at =
    let start = at + prefix_len is_blank (drop at line) in
    if start == length line then End else lexed_at start (first_token (drop start line))

-- a token stands in a line behind a place, and the line may be cut at its ends
pub record StandsIn (line : List ℕ) (at : ℕ) (token : Token) : Type 0 where
  pub behind : at ≤ token.start
  pub not_empty : token.start < token.end
  pub within : token.end ≤ length line
  pub cut_before : IsCharBoundary line token.start
  pub cut_behind : IsCharBoundary line token.end

-- between these two bytes stands a name or a text
pub record StandsBetween (line : List ℕ) (token : Token) (opening closing : ℕ) : Type 0 where
  pub both : token.start + 2 ≤ token.end
  pub first : slice_index line token.start ≡ opening
  pub last : slice_index line (token.end - 1) ≡ closing

-- a name has its brackets, and a text its quotes
abbrev pub HasMarks : List ℕ → Token → Type 0
HasMarks line token = (token.kind ≡ Name → StandsBetween line token 91 93) × (token.kind ≡ Words → StandsBetween line token 34 34)

-- a fact of the token, where there is one
abbrev pub IfToken : Lexed → (Token → Type 0) → Type 0
IfToken (Found token) P = P token
IfToken End P = Unit {0}
IfToken (Bad code) P = Unit {0}
