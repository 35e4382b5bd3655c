-- The definitions of tokens, computed on small lines. 92 is the backslash, 34 is `"`.
use Rattle.std.proofs.Common.{◌≡◌, [], ◌∷◌, ◌++◌, refl}
use Rattle.std.specs.Prelude.{codes}
use Rattle.model_lex.specs.believed.Tokens.{name_between, unquoted}
use Rattle.model_lex.specs.Tokens.{token_at}
use Rattle.model_lex.specs.declared.diag.DiagCode.TheVariants.{StrayCharacter, NameNotClosed, TextNotClosed, BadNumber, NumberTooWide, UnknownWord}
use Rattle.model_lex.specs.declared.token.Lexed.TheVariants.{Token as Found, End, Bad}
use Rattle.model_lex.specs.declared.token.TokenKind.TheVariants.{Name, Words, Number, Word, Relation, Mark}

-- a backslash quotes `]`, `"` and itself, and stands for itself before any other character
quotes : unquoted (92 ∷ 93 ∷ 92 ∷ 34 ∷ 92 ∷ 92 ∷ 92 ∷ 97 ∷ 92 ∷ []) ≡ 93 ∷ 34 ∷ 92 ∷ 92 ∷ 97 ∷ 92 ∷ []
quotes = refl

trimmed_name : name_between (codes " a" ++ (92 ∷ codes "] b ")) ≡ codes "a] b"
trimmed_name = refl

name : token_at (codes " [a" ++ (92 ∷ codes "]b]")) 0 ≡ Found (record { kind = Name; start = 1; end = 7 })
name = refl

text : token_at (34 ∷ codes "a]" ++ (92 ∷ 34 ∷ 34 ∷ [])) 0 ≡ Found (record { kind = Words; start = 0; end = 6 })
text = refl

number : token_at (codes "= -1.5;") 1 ≡ Found (record { kind = Number; start = 2; end = 6 })
number = refl

word : token_at (codes "isNegative(") 0 ≡ Found (record { kind = Word; start = 0; end = 10 })
word = refl

relation : token_at (codes "<>=") 0 ≡ Found (record { kind = Relation; start = 0; end = 2 })
relation = refl

mark : token_at (codes "<>;;") 2 ≡ Found (record { kind = Mark; start = 2; end = 3 })
mark = refl

blanks : token_at (codes "a  ") 1 ≡ End
blanks = refl

stray : token_at (codes " $") 0 ≡ Bad StrayCharacter
stray = refl

open_name : token_at (codes "[a" ++ (92 ∷ codes "]")) 0 ≡ Bad NameNotClosed
open_name = refl

open_text : token_at (34 ∷ codes "a") 0 ≡ Bad TextNotClosed
open_text = refl

no_number : token_at (codes "1-1") 0 ≡ Bad BadNumber
no_number = refl

wide : token_at (codes "1.1234567890") 0 ≡ Bad NumberTooWide
wide = refl

no_word : token_at (codes "IF1") 0 ≡ Bad UnknownWord
no_word = refl
