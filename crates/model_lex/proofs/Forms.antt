-- The form of a token: it isn't empty, it ends with an ASCII byte, and names and texts have their marks.
use Rattle.std.proofs.Common.{◌≡◌, ℕ, suc, ◌+◌, ◌-◌, ◌<◌, ◌≤◌, Bool, true, false, ◌&&◌, List, [], ◌∷◌, length}
use Rattle.std.proofs.Common.{drop, get_or, refl, ap, subst, arith, ◌∙◌, sym, get_or-drop, length-drop}
use Rattle.std.proofs.lemmas.Bool.{eqb-true, ne_eqb}
use Rattle.std.proofs.lemmas.Bool.Decides.{nat_tests}
use Rattle.std.proofs.lemmas.List.Sums.{prefix_len-le-length, prefix_len_passes}
use Rattle.std.proofs.lemmas.Str.{IsCharBoundary-after_ascii}
use Rattle.std.specs.Char.{is_ascii_alphabetic}
use Rattle.std.specs.List.{prefix_len}
use Rattle.std.specs.Option.{option_map}
use Rattle.std.specs.Prelude.{Option, Some, None, Result, Ok, Err, IfOk, IfSome, if◌then◌else◌, nat_eq}
use Rattle.std.specs.Str.{IsUtf8, IsCharBoundary}
use Rattle.value_text.specs.believed.Numbers.{number_of}
use Rattle.value_text.specs.declared.fixed.FixedAnswer.{FixedAnswer}
use Rattle.value_text.specs.declared.fixed.FixedAnswer.TheVariants.{Number as IsNumber, NotNumber, TooWide}
use Rattle.model_lex.proofs.Runs.{run_len, ascii_number, ascii_word}
use Rattle.value_text.specs.believed.Texts.{is_blank}
use Rattle.model_lex.specs.believed.Sections.{first_word, is_word_among, is_word_byte}
use Rattle.model_lex.specs.Tokens.{HasMarks, StandsBetween, StandsIn}
use Rattle.model_lex.specs.believed.Tokens.{begins_number, begins_relation, first_token, is_punctuation, is_number_byte}
use Rattle.model_lex.specs.believed.Tokens.{is_pair, is_quotable, keywords, number_run, number_token, quoted_len, quoted_token}
use Rattle.model_lex.specs.Tokens.{lexed_at, token_at}
use Rattle.model_lex.specs.declared.diag.DiagCode.{DiagCode}
use Rattle.model_lex.specs.declared.diag.DiagCode.TheVariants.{NameNotClosed, TextNotClosed, UnknownWord}
use Rattle.model_lex.specs.declared.token.TokenKind.{TokenKind}
use Rattle.model_lex.specs.declared.token.TokenKind.TheVariants.{Name, Words, Number, Word, Relation, Mark}

-- the first bytes of a text stand between two marks
pub record IsBetween (text : List ℕ) (len opening closing : ℕ) : Type 0 where
  pub both : 2 ≤ len
  pub first : get_or text 0 0 ≡ opening
  pub last : get_or text (len - 1) 0 ≡ closing

-- a token at the start of a text
pub record HasForm (text : List ℕ) (token : TokenKind × ℕ) : Type 0 where
  pub not_empty : 0 < token.1
  pub within : token.1 ≤ length text
  pub ascii : get_or text (token.1 - 1) 0 < 128
  pub name : token.0 ≡ Name → IsBetween text token.1 91 93
  pub words : token.0 ≡ Words → IsBetween text token.1 34 34

-- a fact of what an option holds, moved along
moved : (found : Option ℕ) (k : ℕ) (P Q : ℕ → Type 0) → ((n : ℕ) → P n → Q (k + n)) → IfSome found P → IfSome (option_map (λ n. k + n) found) Q
moved None k P Q along here = tt
moved (Some n) k P Q along here = along n here

-- where a quoted part ends, the closing mark stands
quoted_len-closes : (close : ℕ) (text : List ℕ) → IfSome (quoted_len close text) (λ n. (n < length text) × (get_or text n 0 ≡ close))
quoted_len-closes close [] = tt
quoted_len-closes close (b ∷ []) = at (nat_eq b close) refl
  where
    at : (closes : Bool) → nat_eq b close ≡ closes → IfSome (if closes then Some 0 else None) (λ n. (n < 1) × (get_or (b ∷ []) n 0 ≡ close))
    at true e = (omega arith, eqb-true b close e)
    at false e = tt
quoted_len-closes close (b ∷ next ∷ rest) = at (nat_eq b close) refl ((nat_eq b 92) && is_quotable next) (quoted_len-closes close rest) (quoted_len-closes close (next ∷ rest))
  where
    Closes : List ℕ → ℕ → Type 0
    Closes text n = (n < length text) × (get_or text n 0 ≡ close)

    at :
        (closes : Bool) → nat_eq b close ≡ closes → (quotes : Bool)
        → IfSome (quoted_len close rest) (Closes rest) → IfSome (quoted_len close (next ∷ rest)) (Closes (next ∷ rest))
        → IfSome
        (if closes then Some 0 else if quotes then option_map (λ n. 2 + n) (quoted_len close rest) else option_map (λ n. 1 + n) (quoted_len close (next ∷ rest)))
        (Closes (b ∷ next ∷ rest))
    at true e quotes behind near = (omega arith, eqb-true b close e)
    at false e true behind near = moved (quoted_len close rest) 2 (Closes rest) (Closes (b ∷ next ∷ rest))
        (λ n here. let place : 2 + n ≡ suc (suc n) = omega arith in rw place (omega (arith, here.0), here.1)) behind
    at false e false behind near = moved (quoted_len close (next ∷ rest)) 1 (Closes (next ∷ rest)) (Closes (b ∷ next ∷ rest))
        (λ n here. let place : 1 + n ≡ suc n = omega arith in rw place (omega (arith, here.0), here.1)) near

-- a name or a text
quoted_form :
    (text : List ℕ) (kind : TokenKind) (code : DiagCode) (opening closing : ℕ) → get_or text 0 0 ≡ opening → closing < 128
    → (kind ≡ Name → (opening ≡ 91) × (closing ≡ 93)) → (kind ≡ Words → (opening ≡ 34) × (closing ≡ 34))
    → IfOk (quoted_token kind code (quoted_len closing (drop 1 text))) (HasForm text)
quoted_form text kind code opening closing first ascii of_name of_words = at (quoted_len closing (drop 1 text)) (quoted_len-closes closing (drop 1 text))
  where
    at : (found : Option ℕ) → IfSome found (λ n. (n < length (drop 1 text)) × (get_or (drop 1 text) n 0 ≡ closing)) → IfOk (quoted_token kind code found) (HasForm text)
    at None none = tt
    at (Some n) (short, last) =
        let ends : get_or text (2 + n - 1) 0 ≡ closing = let place : 2 + n - 1 ≡ 1 + n = omega arith in rw (place, ← get_or-drop 1 text n 0) last in
        let fits : 2 + n ≤ length text = omega (arith, length-drop 1 text) in
        let between : (before behind : ℕ) → (opening ≡ before) × (closing ≡ behind) → IsBetween text (2 + n) before behind =
        λ before behind same. record { both = omega arith; first = first ∙ same.0; last = ends ∙ same.1 }
        in record {
          not_empty = omega arith;
          within = fits;
          ascii = rw ends ascii;
          name = λ is_name. between 91 93 (of_name is_name);
          words = λ is_words. between 34 34 (of_words is_words);
        }

-- a run of ASCII bytes
run_form :
    (p : ℕ → Bool) → ((b : ℕ) → p b ≡ true → b < 128)
    → (text : List ℕ) → 0 < length text → p (get_or text 0 0) ≡ true
    → (kind : TokenKind) → (kind ≡ Name → ⊥) → (kind ≡ Words → ⊥)
    → (n : ℕ) → n ≡ prefix_len p text → HasForm text (kind, n)
run_form p ascii [] some first kind no_name no_words n len = absurd (omega arith)
run_form p ascii (b ∷ text) some first kind no_name no_words n len =
    let longer : n ≡ 1 + prefix_len p text = len ∙ rw first refl in
    record {
      not_empty = omega arith;
      within = rw len (prefix_len-le-length p (b ∷ text));
      ascii = ascii (get_or (b ∷ text) (n - 1) 0) (prefix_len_passes p (b ∷ text) (n - 1) 0 (rw (← len) (omega arith)));
      name = λ is_name. absurd (no_name is_name);
      words = λ is_words. absurd (no_words is_words);
    }

-- one byte
byte_form :
    (text : List ℕ) → 0 < length text → get_or text 0 0 < 128
    → (kind : TokenKind) → (kind ≡ Name → ⊥) → (kind ≡ Words → ⊥) → HasForm text (kind, 1)
byte_form text some ascii kind no_name no_words = record {
  not_empty = omega arith;
  within = omega arith;
  ascii = ascii;
  name = λ is_name. absurd (no_name is_name);
  words = λ is_words. absurd (no_words is_words);
}

name_is_no_text : Name ≡ Words → ⊥
name_is_no_text same = cc

choice : (b : Bool) (x y : Result (TokenKind × ℕ) DiagCode) (P : TokenKind × ℕ → Type 0) → (b ≡ true → IfOk x P) → (b ≡ false → IfOk y P) → IfOk (if b then x else y) P
choice true x y P here other = here refl
choice false x y P here other = other refl

-- a number or none
number_form : (text : List ℕ) → 0 < length text → begins_number (get_or text 0 0) ≡ true → (answer : FixedAnswer) → IfOk (number_token (length (number_run text)) answer) (HasForm text)
number_form text some first (IsNumber n) =
    run_form is_number_byte ascii_number text some (grind (arith, nat_tests)) Number (λ e. cc) (λ e. cc) (length (number_run text)) (run_len is_number_byte text)
number_form text some first NotNumber = tt
number_form text some first TooWide = tt

-- a word or none
word_form : (text : List ℕ) → 0 < length text → is_ascii_alphabetic (get_or text 0 0) ≡ true → (known : Bool)
    → IfOk (if known then Ok (Word, length (first_word text)) else Err UnknownWord) (HasForm text)
word_form text some first true =
    run_form is_word_byte ascii_word text some (grind (arith, nat_tests)) Word (λ e. cc) (λ e. cc) (length (first_word text)) (run_len is_word_byte text)
word_form text some first false = tt

-- a relation
relation_form : (text : List ℕ) → 0 < length text → begins_relation (get_or text 0 0) ≡ true → (pair : Bool)
    → is_pair (get_or text 0 0) (get_or text 1 0) ≡ pair → HasForm text (Relation, if pair then 2 else 1)
relation_form [] some first true pair = absurd (omega arith)
relation_form (b ∷ []) some first true pair = absurd (grind (arith, nat_tests))
relation_form (b ∷ next ∷ rest) some first true pair = record {
  not_empty = omega arith;
  within = omega arith;
  ascii = grind (arith, nat_tests);
  name = λ e. absurd (cc);
  words = λ e. absurd (cc);
}
relation_form text some first false pair = byte_form text some (grind (arith, nat_tests)) Relation (λ e. cc) (λ e. cc)

-- each token that a text begins with has its form
pub form_of : (text : List ℕ) → 0 < length text → IfOk (first_token text) (HasForm text)
form_of text some =
    let byte : ℕ = get_or text 0 0 in
    choice (nat_eq byte 91) _ _ (HasForm text)
    (λ e. quoted_form text Name NameNotClosed 91 93 (eqb-true byte 91 e) (omega arith) (λ _. (refl, refl)) (λ words. absurd (name_is_no_text words)))
    (λ _. choice (nat_eq byte 34) _ _ (HasForm text)
    (λ e. quoted_form text Words TextNotClosed 34 34 (eqb-true byte 34 e) (omega arith) (λ name. absurd (name_is_no_text (sym name))) (λ _. (refl, refl)))
    (λ _. choice (begins_number byte) _ _ (HasForm text)
    (λ e. number_form text some e (number_of (number_run text)))
    (λ _. choice (is_ascii_alphabetic byte) _ _ (HasForm text)
    (λ e. word_form text some e (is_word_among keywords (first_word text)))
    (λ _. choice (begins_relation byte) _ _ (HasForm text)
    (λ e. relation_form text some e (is_pair byte (get_or text 1 0)) refl)
    (λ _. choice (is_punctuation byte) _ _ (HasForm text)
    (λ e. byte_form text some (grind (arith, nat_tests)) Mark (λ e. cc) (λ e. cc))
    (λ _. tt))))))

pub form_at : (text : List ℕ) → 0 < length text → (token : TokenKind × ℕ) → Ok token ≡ first_token text → HasForm text token
form_at text some token found =
    let P : Result (TokenKind × ℕ) DiagCode → Type 0 = λ answer. IfOk answer (HasForm text) in
    subst P (sym found) (form_of text some)

-- where a token has its form, it stands in the line
pub stands :
    (line : List ℕ) (at start : ℕ) (token : TokenKind × ℕ) → IsUtf8 line → at ≤ start → start ≤ length line → IsCharBoundary line start
    → HasForm (drop start line) token → StandsIn line at (record { kind = token.0; start = start; end = start + token.1 })
stands line at start (kind, len) utf8 behind within cut form =
    let fits : start + len ≤ length line = omega (arith, length-drop start line) in
    let last : get_or line (start + (len - 1)) 0 < 128 = rw (← get_or-drop start line (len - 1) 0) form.ascii in
    record {
      behind = behind;
      not_empty = omega arith;
      within = fits;
      cut_before = cut;
      cut_behind = subst (λ k. IsCharBoundary line k) (omega arith) (IsCharBoundary-after_ascii line (start + (len - 1)) utf8 (omega arith) last);
    }

-- the marks at the start of what is left are those in the line
between : (line : List ℕ) (start len opening closing : ℕ) (kind : TokenKind) → IsBetween (drop start line) len opening closing
    → StandsBetween line (record { kind = kind; start = start; end = start + len }) opening closing
between line start len opening closing kind here =
    let first : start + 0 ≡ start = omega arith in
    let last : start + len - 1 ≡ start + (len - 1) = omega (arith, here.both) in
    record {
      both = omega (arith, here.both);
      first = ap (λ k. get_or line k 0) (sym first) ∙ (sym (get_or-drop start line 0 0) ∙ here.first);
      last = ap (λ k. get_or line k 0) last ∙ (sym (get_or-drop start line (len - 1) 0) ∙ here.last);
    }

-- where a token has its form, it has its marks in the line
pub has_marks :
    (line : List ℕ) (start : ℕ) (token : TokenKind × ℕ)
    → HasForm (drop start line) token → HasMarks line (record { kind = token.0; start = start; end = start + token.1 })
has_marks line start (kind, len) form =
    (λ name. between line start len 91 93 kind (form.name name), λ words. between line start len 34 34 kind (form.words words))

-- the token at a place begins behind the blanks there
pub token_behind_blanks :
    (line : List ℕ) (at start : ℕ) → start ≡ at + prefix_len is_blank (drop at line) → (start ≡ length line → ⊥)
    → token_at line at ≡ lexed_at start (first_token (drop start line))
token_behind_blanks line at start place before_end = rw (← place, ne_eqb start (length line) before_end) refl
