-- The tokens of a written line are the tokens that were written.
use Rattle.std.proofs.Common.{◌≡◌, ℕ, suc, ◌+◌, ◌-◌, Bool, true, false, ◌||◌, List, [], ◌∷◌, ◌++◌, length}
use Rattle.std.proofs.Common.{map, take, codes, refl, ap, sym, subst, arith, ◌∙◌, append_assoc, length-append}
use Rattle.std.specs.List.{list_all, prefix_len}
use Rattle.std.specs.Prelude.{Ok, Some, ℤ, ◌==◌, if◌then◌else◌}
use Rattle.std.proofs.Math.Seq.{drop-append_seam, take-append_seam}
use Rattle.std.proofs.lemmas.Bool.Decides.{nat_tests}
use Rattle.value_text.specs.believed.Texts.{is_blank}
use Rattle.model_lex.specs.believed.Sections.{first_word, is_word_byte}
use Rattle.model_lex.specs.believed.Tokens.{begins_number, first_token, is_number_byte, name_between, number_run, number_token, quoted_len, quoted_token, unquoted, word_token}
use Rattle.model_lex.specs.declared.diag.DiagCode.{DiagCode}
use Rattle.model_lex.specs.declared.diag.DiagCode.TheVariants.{NameNotClosed, TextNotClosed}
use Rattle.model_lex.specs.declared.token.TokenKind.{TokenKind}
use Rattle.model_lex.specs.declared.token.TokenKind.TheVariants as kinds
use Rattle.value_text.specs.believed.Numbers.{number_of}
use Rattle.value_text.specs.declared.fixed.FixedAnswer.TheVariants.{Number as IsNumber}
use Rattle.constraint_ast.specs.believed.Grammar.{at}
use Rattle.constraint_ast.specs.believed.Lexing.{inside, meant, number_meant, token_before, tokens_in}
use Rattle.constraint_ast.specs.believed.RuleText.{closes, number_text, opens, quoted, relation_text, spaced, token_text}
use Rattle.constraint_ast.specs.declared.token.RuleToken.{RuleToken}
use Rattle.constraint_ast.specs.declared.token.RuleToken.TheVariants.{Name, Literal, Relation, If, Then, Else, And, Or, Not, In, Like}
use Rattle.constraint_ast.specs.declared.token.RuleToken.TheVariants.{Sign, OpenParen, CloseParen, OpenBrace, CloseBrace, Comma, Semicolon}
use Rattle.constraint_ast.specs.declared.token.Sign.TheVariants.{Negative, Positive}
use Rattle.constraint_ast.specs.declared.tree.RawLiteral.{RawLiteral}
use Rattle.constraint_ast.specs.declared.tree.RawLiteral.TheVariants.{Words, Number}
use Rattle.constraint_ast.specs.declared.tree.RawRel.{RawRel}
use Rattle.constraint_ast.specs.declared.tree.RawRel.TheVariants.{Eq, Ne, Gt, Ge, Lt, Le}
use Rattle.constraint_ast.proofs.Contents.{TokenIs, WrittenAre}
use Rattle.constraint_ast.proofs.Lexing.{rest_skipped}
use Rattle.constraint_ast.proofs.NameText.{quoted_closes, unquoted_quoted}
use Rattle.constraint_ast.proofs.Digits.{Stops, run_prefix}
use Rattle.constraint_ast.proofs.NumberText.{IsSmall, number_bytes, small_again}

-- a name and a literal that read back
abbrev pub NameReads : List ℕ → Type 0
NameReads name = name_between (quoted name) ≡ name

abbrev pub LiteralReads : RawLiteral → Type 0
LiteralReads (Words text) = Unit {0}
LiteralReads (Number n) = IsSmall n

-- ---- what stands behind a token

-- a blank, or `)`, `}`, `,`, `;`
abbrev pub ends_token : ℕ → Bool
ends_token b = (b == 32) || (b == 41) || (b == 125) || (b == 44) || (b == 59)

pub data Ends : List ℕ → Type 0 where
  ends_here : Ends []
  ends_at : (b : ℕ) (tail : List ℕ) → ends_token b ≡ true → Ends (b ∷ tail)

pub ends_word : {tail : List ℕ} → Ends tail → Stops is_word_byte tail
ends_word ends_here = tt
ends_word (ends_at b tail e) = grind (arith, nat_tests)

pub ends_number : {tail : List ℕ} → Ends tail → Stops is_number_byte tail
ends_number ends_here = tt
ends_number (ends_at b tail e) = grind (arith, nat_tests)

pub not_equals : (b : ℕ) → ends_token b ≡ true → (b == 61) ≡ false
not_equals b e = grind (arith, nat_tests)

pub not_greater : (b : ℕ) → ends_token b ≡ true → (b == 62) ≡ false
not_greater b e = grind (arith, nat_tests)

pub less_first : {tail : List ℕ} → Ends tail → first_token (60 ∷ tail) ≡ Ok (kinds.Relation, 1)
less_first ends_here = refl
less_first (ends_at b tail e) = rw (not_equals b e, not_greater b e) refl

pub greater_first : {tail : List ℕ} → Ends tail → first_token (62 ∷ tail) ≡ Ok (kinds.Relation, 1)
greater_first ends_here = refl
greater_first (ends_at b tail e) = rw (not_equals b e) refl

pub spaced_ends : (tokens : List RuleToken) → Ends (spaced false tokens)
spaced_ends [] = ends_here
spaced_ends (CloseParen ∷ rest) = ends_at 41 _ refl
spaced_ends (CloseBrace ∷ rest) = ends_at 125 _ refl
spaced_ends (Comma ∷ rest) = ends_at 44 _ refl
spaced_ends (Semicolon ∷ rest) = ends_at 59 _ refl
spaced_ends (token ∷ rest) = ends_at 32 _ refl

-- ---- one token

module _ (line : ℕ) where
  -- a token is read at the start of a text
  abbrev Reads : RuleToken → List ℕ → List ℕ → Type 0
  Reads token text tail = tokens_in line 0 (text ++ tail) ≡ token_before line (Ok token) (tokens_in line 0 tail)

  one_read :
      (token : RuleToken) (b : ℕ) (more tail : List ℕ) → is_blank b ≡ false → (kind : TokenKind)
      → first_token (b ∷ (more ++ tail)) ≡ Ok (kind, suc (length more)) → meant kind (b ∷ more) ≡ Ok token
      → Reads token (b ∷ more) tail
  one_read token b more tail dense kind first means =
      let step : tokens_in line 0 (b ∷ (more ++ tail)) ≡ token_before line (meant kind (b ∷ take (length more) (more ++ tail))) (tokens_in line (suc (length more) - 1) (more ++ tail)) =
      rw (dense, first) refl in
      let one : suc (length more) - 1 ≡ length more = omega arith in
      let rest : tokens_in line (suc (length more) - 1) (more ++ tail) ≡ tokens_in line 0 tail =
      ap (λ n. tokens_in line n (more ++ tail)) one ∙ (rest_skipped line (length more) (more ++ tail) ∙ ap (λ left. tokens_in line 0 left) (drop-append_seam more tail)) in
      let same : meant kind (b ∷ take (length more) (more ++ tail)) ≡ Ok token = ap (λ text. meant kind (b ∷ text)) (take-append_seam more tail) ∙ means in
      step ∙ (ap (λ read. token_before line read (tokens_in line (suc (length more) - 1) (more ++ tail))) same ∙ ap (λ read. token_before line (Ok token) read) rest)

  word_read :
      (token : RuleToken) (b : ℕ) (more tail : List ℕ) → is_blank b ≡ false → first_token (b ∷ (more ++ tail)) ≡ word_token (first_word (b ∷ (more ++ tail)))
      → list_all is_word_byte (b ∷ more) ≡ true → word_token (b ∷ more) ≡ Ok (kinds.Word, suc (length more))
      → meant kinds.Word (b ∷ more) ≡ Ok token → Ends tail → Reads token (b ∷ more) tail
  word_read token b more tail dense first all known means ends =
      let len : prefix_len is_word_byte (b ∷ (more ++ tail)) ≡ length (b ∷ more) = run_prefix is_word_byte (b ∷ more) tail all (ends_word ends) in
      let run : first_word (b ∷ (more ++ tail)) ≡ b ∷ more = ap (λ n. take n (b ∷ (more ++ tail))) len ∙ take-append_seam (b ∷ more) tail in
      one_read token b more tail dense kinds.Word (first ∙ (ap word_token run ∙ known)) means

  -- what stands between two marks
  between : (mark close : ℕ) (text : List ℕ) → inside (mark ∷ (quoted text ++ close ∷ [])) ≡ quoted text
  between mark close text =
      let size : length (mark ∷ (quoted text ++ close ∷ [])) - 2 ≡ length (quoted text) = omega (arith, length-append (quoted text) (close ∷ [])) in
      ap (λ n. take n (quoted text ++ close ∷ [])) size ∙ take-append_seam (quoted text) (close ∷ [])

  marked_first :
      (kind : TokenKind) (code : DiagCode) (close : ℕ) (text tail : List ℕ) → quoted_len close (quoted text ++ close ∷ tail) ≡ Some (length (quoted text))
      → quoted_token kind code (quoted_len close ((quoted text ++ close ∷ []) ++ tail)) ≡ Ok (kind, suc (length (quoted text ++ close ∷ [])))
  marked_first kind code close text tail found =
      let size : 2 + length (quoted text) ≡ suc (length (quoted text ++ close ∷ [])) = omega (arith, length-append (quoted text) (close ∷ [])) in
      ap (λ text. quoted_token kind code (quoted_len close text)) (append_assoc (quoted text) (close ∷ []) tail)
      ∙ (ap (λ found. quoted_token kind code found) found ∙ ap (λ n. Ok (kind, n)) size)

  name_read : (name tail : List ℕ) → NameReads name → Reads (Name name) (token_text (Name name)) tail
  name_read name tail is =
      one_read (Name name) 91 (quoted name ++ 93 ∷ []) tail refl kinds.Name (marked_first kinds.Name NameNotClosed 93 name tail (quoted_closes 93 refl refl name tail))
      (ap (λ text. Ok (Name (name_between text))) (between 91 93 name) ∙ ap (λ name. Ok (Name name)) is)

  words_read : (text tail : List ℕ) → Reads (Literal (Words text)) (token_text (Literal (Words text))) tail
  words_read text tail =
      one_read (Literal (Words text)) 34 (quoted text ++ 34 ∷ []) tail refl kinds.Words (marked_first kinds.Words TextNotClosed 34 text tail (quoted_closes 34 refl refl text tail))
      (ap (λ text. Ok (Literal (Words (unquoted text)))) (between 34 34 text) ∙ ap (λ text. Ok (Literal (Words text))) (unquoted_quoted text))

  number_read : (n : ℤ) (tail : List ℕ) → IsSmall n → Ends tail → Reads (Literal (Number n)) (number_text n) tail
  number_read n tail small ends =
      let bytes = number_bytes n small in
      subst (λ text. Reads (Literal (Number n)) text tail) (sym bytes.is)
      (by bytes.first bytes.more bytes.begins (ap (λ text. list_all is_number_byte text) (sym bytes.is) ∙ bytes.all) (ap number_of (sym bytes.is) ∙ small_again n small))
    where
      by : (b : ℕ) (more : List ℕ) → begins_number b ≡ true → list_all is_number_byte (b ∷ more) ≡ true
          → number_of (b ∷ more) ≡ IsNumber n → Reads (Literal (Number n)) (b ∷ more) tail
      by b more begins all is =
          let bracket : (b == 91) ≡ false = grind (arith, nat_tests) in
          let quote : (b == 34) ≡ false = grind (arith, nat_tests) in
          let dense : is_blank b ≡ false = grind (arith, nat_tests) in
          let len : prefix_len is_number_byte (b ∷ (more ++ tail)) ≡ length (b ∷ more) = run_prefix is_number_byte (b ∷ more) tail all (ends_number ends) in
          let run : number_run (b ∷ (more ++ tail)) ≡ b ∷ more = ap (λ n. take n (b ∷ (more ++ tail))) len ∙ take-append_seam (b ∷ more) tail in
          let first : first_token (b ∷ (more ++ tail)) ≡ number_token (length (number_run (b ∷ (more ++ tail)))) (number_of (number_run (b ∷ (more ++ tail)))) =
          rw (bracket, quote, begins) refl in
          one_read (Literal (Number n)) b more tail dense kinds.Number
          (first ∙ (ap (λ run. number_token (length run) (number_of run)) run ∙ ap (λ read. number_token (suc (length more)) read) is))
          (ap number_meant is)

  relation_read : (rel : RawRel) (tail : List ℕ) → Ends tail → Reads (Relation rel) (relation_text rel) tail
  relation_read Eq tail ends = one_read (Relation Eq) 61 [] tail refl kinds.Relation refl refl
  relation_read Ne tail ends = one_read (Relation Ne) 60 (62 ∷ []) tail refl kinds.Relation refl refl
  relation_read Gt tail ends = one_read (Relation Gt) 62 [] tail refl kinds.Relation (greater_first ends) refl
  relation_read Ge tail ends = one_read (Relation Ge) 62 (61 ∷ []) tail refl kinds.Relation refl refl
  relation_read Lt tail ends = one_read (Relation Lt) 60 [] tail refl kinds.Relation (less_first ends) refl
  relation_read Le tail ends = one_read (Relation Le) 60 (61 ∷ []) tail refl kinds.Relation refl refl

  -- behind a mark that takes no blank anything may stand
  abbrev Follows : RuleToken → List ℕ → Type 0
  Follows token tail = opens token ≡ false → Ends tail

  token_read : (token : RuleToken) (tail : List ℕ) → TokenIs NameReads LiteralReads token → Follows token tail → Reads token (token_text token) tail
  token_read (Name name) tail is ends = name_read name tail is
  token_read (Literal (Words text)) tail is ends = words_read text tail
  token_read (Literal (Number n)) tail is ends = number_read n tail is (ends refl)
  token_read (Relation rel) tail is ends = relation_read rel tail (ends refl)
  token_read If tail is ends = word_read If 73 (codes "F") tail refl refl refl refl refl (ends refl)
  token_read Then tail is ends = word_read Then 84 (codes "HEN") tail refl refl refl refl refl (ends refl)
  token_read Else tail is ends = word_read Else 69 (codes "LSE") tail refl refl refl refl refl (ends refl)
  token_read And tail is ends = word_read And 65 (codes "ND") tail refl refl refl refl refl (ends refl)
  token_read Or tail is ends = word_read Or 79 (codes "R") tail refl refl refl refl refl (ends refl)
  token_read Not tail is ends = word_read Not 78 (codes "OT") tail refl refl refl refl refl (ends refl)
  token_read In tail is ends = word_read In 73 (codes "N") tail refl refl refl refl refl (ends refl)
  token_read Like tail is ends = word_read Like 76 (codes "IKE") tail refl refl refl refl refl (ends refl)
  token_read (Sign Negative) tail is ends = word_read (Sign Negative) 73 (codes "SNEGATIVE") tail refl refl refl refl refl (ends refl)
  token_read (Sign Positive) tail is ends = word_read (Sign Positive) 73 (codes "SPOSITIVE") tail refl refl refl refl refl (ends refl)
  token_read OpenParen tail is ends = one_read OpenParen 40 [] tail refl kinds.Mark refl refl
  token_read CloseParen tail is ends = one_read CloseParen 41 [] tail refl kinds.Mark refl refl
  token_read OpenBrace tail is ends = one_read OpenBrace 123 [] tail refl kinds.Mark refl refl
  token_read CloseBrace tail is ends = one_read CloseBrace 125 [] tail refl kinds.Mark refl refl
  token_read Comma tail is ends = one_read Comma 44 [] tail refl kinds.Mark refl refl
  token_read Semicolon tail is ends = one_read Semicolon 59 [] tail refl kinds.Mark refl refl

  -- ---- a line

  behind_blank : (none : Bool) (text : List ℕ) → tokens_in line 0 ((if none then [] else 32 ∷ []) ++ text) ≡ tokens_in line 0 text
  behind_blank true text = refl
  behind_blank false text = refl

  follows : (token : RuleToken) (rest : List RuleToken) → Follows token (spaced (opens token) rest)
  follows token rest other = subst (λ opened. Ends (spaced opened rest)) (sym other) (spaced_ends rest)

  pub line_read : (opened : Bool) (tokens : List RuleToken) → WrittenAre NameReads LiteralReads tokens → tokens_in line 0 (spaced opened tokens) ≡ Ok (map (at line) tokens)
  line_read opened [] are = refl
  line_read opened (token ∷ rest) are =
      let tail : List ℕ = spaced (opens token) rest in
      behind_blank (opened || closes token) (token_text token ++ tail)
      ∙ (token_read token tail are.0 (follows token rest) ∙ ap (λ read. token_before line (Ok token) read) (line_read (opens token) rest are.1))
