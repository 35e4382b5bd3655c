-- What holds of the names and literals that a line gives holds of its tokens.
use Rattle.std.proofs.Common.{◌≡◌, ℕ, zero, suc, Bool, true, false, List, [], ◌∷◌, ◌++◌, take, refl, subst}
use Rattle.std.specs.List.{AllByRecursion}
use Rattle.std.specs.Prelude.{Option, Some, None, Result, Ok, Err, ℤ, ◌==◌, if◌then◌else◌, codes}
use Rattle.std.specs.Str.{str_eq_ignore_ascii_case}
use Rattle.value_text.specs.believed.Texts.{is_blank}
use Rattle.model_lex.specs.believed.Tokens.{first_token, name_between, unquoted}
use Rattle.model_lex.specs.declared.diag.Diag.{Diag}
use Rattle.model_lex.specs.declared.diag.DiagCode.{DiagCode}
use Rattle.model_lex.specs.declared.diag.DiagCode.TheVariants.{StrayCharacter, UnknownWord}
use Rattle.model_lex.specs.declared.token.TokenKind.{TokenKind}
use Rattle.model_lex.specs.declared.token.TokenKind.TheVariants as kinds
use Rattle.value_text.specs.believed.Numbers.{number_of}
use Rattle.value_text.specs.declared.fixed.FixedAnswer.{FixedAnswer}
use Rattle.value_text.specs.declared.fixed.FixedAnswer.TheVariants.{Number as IsNumber, NotNumber, TooWide}
use Rattle.constraint_ast.specs.believed.Grammar.{at}
use Rattle.constraint_ast.specs.believed.Lexing.{both_tokens, inside, keyword_of, punctuation_of, meant, number_meant, or_code, relation_meant}
use Rattle.constraint_ast.specs.believed.Lexing.{relation_of, token_before, token_meant, tokens_in, tokens_of}
use Rattle.constraint_ast.specs.declared.token.LineToken.{LineToken}
use Rattle.constraint_ast.specs.declared.token.RuleToken.{RuleToken}
use Rattle.constraint_ast.specs.declared.token.RuleToken.TheVariants.{If, Then, Else, And, Or, Not, In, Like, Sign, OpenParen, CloseParen, OpenBrace, CloseBrace, Comma, Semicolon}
use Rattle.constraint_ast.specs.declared.token.Sign.TheVariants.{Negative, Positive}
use Rattle.constraint_ast.specs.declared.tree.RawLiteral.{RawLiteral}
use Rattle.constraint_ast.specs.declared.tree.RawLiteral.TheVariants.{Words, Number}
use Rattle.constraint_ast.specs.declared.tree.RawRel.{RawRel}
use Rattle.constraint_ast.proofs.Contents.{TokenIs, TokensAre}

-- a token that may be found is so
record MayBe (Is : RuleToken → Type 0) (found : Option RuleToken) : Type 0 where
  is : (token : RuleToken) → found ≡ Some token → Is token

some_of : (token other : RuleToken) → Some other ≡ Some token → other ≡ token
some_of token other e = cc

abbrev token_ok : RuleToken → Result RuleToken DiagCode
token_ok token = Ok token

same_token : (other token : RuleToken) → token_ok other ≡ Ok token → other ≡ token
same_token other token e = cc

abbrev tokens_ok : List LineToken → Result (List LineToken) Diag
tokens_ok tokens = Ok tokens

same_tokens : (others tokens : List LineToken) → tokens_ok others ≡ Ok tokens → others ≡ tokens
same_tokens others tokens e = cc

-- what holds of names, of literals and of texts: it holds of a text behind its first byte, and of what stands between the marks of a token
module _ (NameIs : List ℕ → Type 0) (LiteralIs : RawLiteral → Type 0) (TextIs : List ℕ → Type 0)
    (behind : (b : ℕ) (text : List ℕ) → TextIs (b ∷ text) → TextIs text)
    (name : (len : ℕ) (text : List ℕ) → TextIs text → NameIs (name_between (inside (take len text))))
    (words : (len : ℕ) (text : List ℕ) → TextIs text → LiteralIs (Words (unquoted (inside (take len text)))))
    (number : (text : List ℕ) (n : ℤ) → number_of text ≡ IsNumber n → LiteralIs (Number n)) where
  abbrev IsSo : RuleToken → Type 0
  IsSo token = TokenIs NameIs LiteralIs token

  abbrev AreSo : List LineToken → Type 0
  AreSo tokens = TokensAre NameIs LiteralIs tokens

  -- words and marks
  none_found : MayBe IsSo None
  none_found = record { is = λ token e. absurd (cc) }

  found : (other : RuleToken) → IsSo other → MayBe IsSo (Some other)
  found other is = record { is = λ token e. subst IsSo (some_of token other e) is }

  either : (first : Bool) {one other : Option RuleToken} → MayBe IsSo one → MayBe IsSo other → MayBe IsSo (if first then one else other)
  either true is also = is
  either false is also = also

  keyword_is : (word : List ℕ) → MayBe IsSo (keyword_of word)
  keyword_is word =
      let is : List ℕ → Bool = λ known. str_eq_ignore_ascii_case word known in
      either (is (codes "IF")) (found If tt) (either (is (codes "THEN")) (found Then tt) (either (is (codes "ELSE")) (found Else tt) (either (is (codes "AND")) (found And tt)
      (either (is (codes "OR")) (found Or tt) (either (is (codes "NOT")) (found Not tt) (either (is (codes "IN")) (found In tt) (either (is (codes "LIKE")) (found Like tt)
      (either (is (codes "ISNEGATIVE")) (found (Sign Negative) tt) (either (is (codes "ISPOSITIVE")) (found (Sign Positive) tt) none_found)))))))))

  mark_is : (text : List ℕ) → MayBe IsSo (punctuation_of text)
  mark_is [] = none_found
  mark_is (a ∷ []) =
      either (a == 40) (found OpenParen tt) (either (a == 41) (found CloseParen tt) (either (a == 123) (found OpenBrace tt) (either (a == 125) (found CloseBrace tt)
      (either (a == 44) (found Comma tt) (either (a == 59) (found Semicolon tt) none_found)))))
  mark_is (a ∷ b ∷ rest) = none_found

  found_is : (code : DiagCode) (read : Option RuleToken) (token : RuleToken) → MayBe IsSo read → or_code code read ≡ Ok token → IsSo token
  found_is code None token may e = absurd (cc)
  found_is code (Some other) token may e = may.is token (same other token e)
    where
      same : (other token : RuleToken) → or_code code (Some other) ≡ Ok token → Some other ≡ Some token
      same other token e = cc

  number_is : (text : List ℕ) (read : FixedAnswer) (token : RuleToken) → number_of text ≡ read → number_meant read ≡ Ok token → IsSo token
  number_is text (IsNumber n) token is e = subst IsSo (same_token _ token e) (number text n is)
  number_is text NotNumber token is e = absurd (cc)
  number_is text TooWide token is e = absurd (cc)

  relation_is : (found : Option RawRel) (token : RuleToken) → relation_meant found ≡ Ok token → IsSo token
  relation_is None token e = absurd (cc)
  relation_is (Some rel) token e = subst IsSo (same_token _ token e) tt

  -- tokens
  meant_is : (kind : TokenKind) (len : ℕ) (text : List ℕ) (token : RuleToken) → TextIs text → meant kind (take len text) ≡ Ok token → IsSo token
  meant_is kinds.Name len text token so e = subst IsSo (same_token _ token e) (name len text so)
  meant_is kinds.Words len text token so e = subst IsSo (same_token _ token e) (words len text so)
  meant_is kinds.Number len text token so e = number_is (take len text) (number_of (take len text)) token refl e
  meant_is kinds.Word len text token so e = found_is UnknownWord (keyword_of (take len text)) token (keyword_is (take len text)) e
  meant_is kinds.Relation len text token so e = relation_is (relation_of (take len text)) token e
  meant_is kinds.Mark len text token so e = found_is StrayCharacter (punctuation_of (take len text)) token (mark_is (take len text)) e

  token_is : (text : List ℕ) (first : Result (TokenKind × ℕ) DiagCode) (token : RuleToken) → TextIs text → token_meant text first ≡ Ok token → IsSo token
  token_is text (Ok (kind, len)) token so e = meant_is kind len text token so e
  token_is text (Err code) token so e = absurd (cc)

  before_are : (line : ℕ) (first : Result RuleToken DiagCode) (read : Result (List LineToken) Diag) (tokens : List LineToken) → ((token : RuleToken) → first ≡ Ok token → IsSo token)
      → ((rest : List LineToken) → read ≡ Ok rest → AreSo rest) → token_before line first read ≡ Ok tokens → AreSo tokens
  before_are line (Ok token) (Ok rest) tokens is are e = subst AreSo (same_tokens (at line token ∷ rest) tokens e) (is token refl, are rest refl)
  before_are line (Ok token) (Err diag) tokens is are e = absurd (cc)
  before_are line (Err code) read tokens is are e = absurd (cc)

  none_are : (tokens : List LineToken) → tokens_ok [] ≡ Ok tokens → AreSo tokens
  none_are [] e = tt
  none_are (token ∷ tokens) e = absurd (cc)

  tokens_are : (line rest : ℕ) (text : List ℕ) (tokens : List LineToken) → TextIs text → tokens_in line rest text ≡ Ok tokens → AreSo tokens
  tokens_are line rest [] tokens so e = none_are tokens e
  tokens_are line (suc rest) (byte ∷ text) tokens so e = tokens_are line rest text tokens (behind byte text so) e
  tokens_are line zero (byte ∷ text) tokens so e = by (is_blank byte) refl (λ rest tokens e. tokens_are line rest text tokens (behind byte text so) e)
    where
      by : (blank : Bool) → is_blank byte ≡ blank → ((rest : ℕ) (tokens : List LineToken) → tokens_in line rest text ≡ Ok tokens → AreSo tokens) → AreSo tokens
      by true is later = later 0 tokens (rw is at e)
      by false is later =
          let first = first_token (byte ∷ text) in
          before_are line (token_meant (byte ∷ text) first) _ tokens (λ token e. token_is (byte ∷ text) first token so e) (λ tokens e. later _ tokens e) (rw is at e)

  both_are : (one two : List LineToken) → AreSo one → AreSo two → AreSo (one ++ two)
  both_are [] two are also = also
  both_are (token ∷ one) two are also = (are.0, both_are one two are.1 also)

  joined_are : (one two : Result (List LineToken) Diag) (tokens : List LineToken) → ((read : List LineToken) → one ≡ Ok read → AreSo read)
      → ((read : List LineToken) → two ≡ Ok read → AreSo read) → both_tokens one two ≡ Ok tokens → AreSo tokens
  joined_are (Ok one) (Ok two) tokens are also e = subst AreSo (same_tokens (one ++ two) tokens e) (both_are one two (are one refl) (also two refl))
  joined_are (Ok one) (Err diag) tokens are also e = absurd (cc)
  joined_are (Err diag) two tokens are also e = absurd (cc)

  pub lines_are : (lines : List (ℕ × List ℕ)) (tokens : List LineToken) → AllByRecursion (λ line. TextIs line.1) lines → tokens_of lines ≡ Ok tokens → AreSo tokens
  lines_are [] tokens so e = none_are tokens e
  lines_are (line ∷ lines) tokens so e =
      joined_are (tokens_in line.0 0 line.1) (tokens_of lines) tokens (λ read e. tokens_are line.0 0 line.1 read so.0 e) (λ read e. lines_are lines read so.1 e) e
