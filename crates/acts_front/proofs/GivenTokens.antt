-- What is known of the tokens of a constraint line.
use Rattle.std.proofs.Common.{◌≡◌, ℕ, zero, suc, ◌+◌, ◌-◌, Bool, true, false, ◌&&◌, ◌||◌, if◌then◌else◌, List, [], ◌∷◌}
use Rattle.std.proofs.Common.{length, take, drop, All, Option, Some, None, refl, sym, ap, subst, ◌∙◌, arith, one-add}
use Rattle.std.proofs.lemmas.Bool.{and_from, and_parts, cond_both, lt-ltb, not_from_false, or_parts}
use Rattle.std.proofs.lemmas.List.Elements.{All-cons, All-nil}
use Rattle.std.proofs.lemmas.List.Sums.{take_while-cons}
use Rattle.std.specs.Char.{is_ascii_digit}
use Rattle.std.specs.List.{list_all, list_any, position, position_or_len, take_while}
use Rattle.std.specs.Prelude.{◌==◌, nat_lt, slice_index}
use Rattle.value_text.specs.believed.Texts.{is_blank}
use Rattle.model_lex.specs.believed.Sections.{first_word, is_word_byte}
use Rattle.model_parse.specs.believed.Pieces.{is_byte}
use Rattle.acts_front.specs.believed.Lines.{is_allowed}
use Rattle.acts_front.specs.believed.ParameterLines.{is_false, is_name, is_true, is_whole}
use Rattle.acts_front.specs.believed.Tokens.{Token, Name, Whole, Words, Truth, Relation, Arrow, Or, And, Not, Open, Close, Found, first_found, mark_token}
use Rattle.acts_front.specs.believed.Tokens.{one_of_two, before_tokens, tokens_behind, whole_run, whole_token, token_of_word, words_before, words_token}
use Rattle.acts_front.proofs.Mapped.{position_is}

-- a text in double quotes has neither these nor a backslash
pub record IsQuoted (text : List ℕ) : Type 0 where
  pub no_quote : list_any (is_byte 34) text ≡ false
  pub no_backslash : list_any (is_byte 92) text ≡ false
  pub allowed : list_all is_allowed text ≡ true

-- what is known of a token
abbrev pub IsWritten : Token → Type 0
IsWritten (Name name) = is_name name ≡ true
IsWritten (Whole text) = is_whole text ≡ true
IsWritten (Words text) = IsQuoted text
IsWritten (Truth truth) = Unit {0}
IsWritten (Relation rel) = Unit {0}
IsWritten Arrow = Unit {0}
IsWritten Or = Unit {0}
IsWritten And = Unit {0}
IsWritten Not = Unit {0}
IsWritten Open = Unit {0}
IsWritten Close = Unit {0}

abbrev IsFine : Found → Type 0
IsFine (Some (token, len)) = IsWritten token
IsFine None = Unit {0}

-- what a list keeps of its items
pub all_taken : {X : Type 0} (p : X → Bool) (n : ℕ) (list : List X) → list_all p list ≡ true → list_all p (take n list) ≡ true
all_taken p zero list all = refl
all_taken p (suc n) [] all = refl
all_taken p (suc n) (x ∷ list) all = let parts = and_parts (p x) (list_all p list) all in and_from _ _ parts.0 (all_taken p n list parts.1)

pub all_dropped : {X : Type 0} (p : X → Bool) (n : ℕ) (list : List X) → list_all p list ≡ true → list_all p (drop n list) ≡ true
all_dropped p zero list all = all
all_dropped p (suc n) [] all = refl
all_dropped p (suc n) (x ∷ list) all = all_dropped p n list (and_parts (p x) (list_all p list) all).1

pub all_run : {X : Type 0} (p : X → Bool) (list : List X) → list_all p (take_while p list) ≡ true
all_run p [] = refl
all_run p (x ∷ list) =
    subst (λ run. list_all p run ≡ true) (sym (take_while-cons p x list))
    (cond_both (p x) (x ∷ take_while p list) [] (λ run. list_all p run ≡ true) (λ passes. and_from _ _ passes (all_run p list)) (λ other. refl))

none_before : {X : Type 0} (p : X → Bool) (list : List X) → list_any p (take (position_or_len p list) list) ≡ false
none_before p [] = refl
none_before p (x ∷ list) = at (p x) refl (none_before p list)
  where
    at : (b : Bool) → p x ≡ b → list_any p (take (position_or_len p list) list) ≡ false → list_any p (take (position_or_len p (x ∷ list)) (x ∷ list)) ≡ false
    at true e rest = rw e refl
    at false e rest = rw (e, one-add) (rw e rest)

-- ---- the first token of a text

whole_fine : (run : List ℕ) → IsFine (whole_token run)
whole_fine run = cond_both (is_whole run) (Some (Whole run, length run)) None IsFine (λ whole. whole) (λ other. tt)

word_named : (b : ℕ) (rest : List ℕ) → is_word_byte b ≡ true → is_ascii_digit b ≡ false → is_name (first_word (b ∷ rest)) ≡ true
word_named b rest word digit =
    let run : first_word (b ∷ rest) ≡ b ∷ take_while is_word_byte rest = take_while-cons is_word_byte b rest ∙ rw word refl in
    let all : list_all is_word_byte (b ∷ take_while is_word_byte rest) ≡ true = and_from _ _ word (all_run is_word_byte rest) in
    ap is_name run ∙ and_from _ _ (and_from _ _ (some (take_while is_word_byte rest)) (not_from_false _ digit)) all
  where
    some : (more : List ℕ) → nat_lt 0 (length (b ∷ more)) ≡ true
    some more = lt-ltb 0 (length (b ∷ more)) (omega arith)

word_fine : (b : ℕ) (rest : List ℕ) → is_word_byte b ≡ true → is_ascii_digit b ≡ false → IsFine (Some (token_of_word (first_word (b ∷ rest)), length (first_word (b ∷ rest))))
word_fine b rest word digit =
    let text = first_word (b ∷ rest) in
    cond_both (is_true text) (Truth true) (if is_false text then Truth false else Name text) IsWritten (λ e. tt)
    (λ e. cond_both (is_false text) (Truth false) (Name text) IsWritten (λ f. tt) (λ f. word_named b rest word digit))

words_fine : (behind : List ℕ) → list_all is_allowed behind ≡ true → IsFine (words_token behind)
words_fine behind all = by (position (is_byte 34) behind) refl
  where
    by : (found : Option ℕ) → position (is_byte 34) behind ≡ found → IsFine (words_before behind found)
    by None is = tt
    by (Some len) is =
        let place = position_is (is_byte 34) behind len is in
        cond_both (list_any (is_byte 92) (take len behind)) None (Some (Words (take len behind), 2 + len)) IsFine (λ e. tt)
        (λ plain. record {
          no_quote = subst (λ n. list_any (is_byte 34) (take n behind) ≡ false) place (none_before (is_byte 34) behind);
          no_backslash = plain;
          allowed = all_taken is_allowed len behind all;
        })

two_fine : (next second : ℕ) (longer shorter : Token) → IsWritten longer → IsWritten shorter → IsFine (one_of_two next second longer shorter)
two_fine next second longer shorter a b = cond_both (next == second) (Some (longer, 2)) (Some (shorter, 1)) IsFine (λ e. a) (λ e. b)

marks_fine : (first next : ℕ) → IsFine (mark_token first next)
marks_fine first next =
    cond_both (first == 61) _ _ IsFine (λ e. two_fine next 62 _ _ tt tt) (λ e.
    cond_both (first == 33) _ _ IsFine (λ e. two_fine next 61 _ _ tt tt) (λ e.
    cond_both (first == 62) _ _ IsFine (λ e. two_fine next 61 _ _ tt tt) (λ e.
    cond_both (first == 60) _ _ IsFine (λ e. two_fine next 61 _ _ tt tt) (λ e.
    cond_both ((first == 124) && (next == 124)) _ _ IsFine (λ e. tt) (λ e.
    cond_both ((first == 38) && (next == 38)) _ _ IsFine (λ e. tt) (λ e.
    cond_both (first == 40) _ _ IsFine (λ e. tt) (λ e. cond_both (first == 41) _ _ IsFine (λ e. tt) (λ e. tt))))))))

first_fine : (b : ℕ) (rest : List ℕ) → list_all is_allowed (b ∷ rest) ≡ true → IsFine (first_found (b ∷ rest))
first_fine b rest all =
    cond_both (is_ascii_digit b || (b == 45)) _ _ IsFine (λ e. whole_fine (whole_run (b ∷ rest))) (λ other.
    cond_both (is_word_byte b) _ _ IsFine (λ word. word_fine b rest word (or_parts _ _ other).0) (λ e.
    cond_both (b == 34) _ _ IsFine (λ e. words_fine rest (and_parts _ _ all).1) (λ e. marks_fine b (slice_index (b ∷ rest) 1))))

-- ---- all tokens of a text

pub tokens_written : (n : ℕ) (text : List ℕ) (tokens : List Token) → list_all is_allowed text ≡ true → tokens_behind n text ≡ Some tokens → All IsWritten tokens
tokens_written n [] tokens all is = let none : [] ≡ tokens = by n is in subst (All IsWritten) none (All-nil IsWritten)
  where
    by : (n : ℕ) → tokens_behind n [] ≡ Some tokens → [] ≡ tokens
    by zero e = cc
    by (suc n) e = cc
tokens_written (suc n) (b ∷ rest) tokens all is = tokens_written n rest tokens (and_parts _ _ all).1 is
tokens_written zero (b ∷ rest) tokens all is =
    by (is_blank b) refl (first_found (b ∷ rest)) refl (first_fine b rest all) (λ n list e. tokens_written n rest list (and_parts _ _ all).1 e)
  where
    behind : (token : Token) (others : Option (List Token)) (len : ℕ) → IsWritten token → before_tokens (Some (token, len)) others ≡ Some tokens
        → ((list : List Token) → others ≡ Some list → All IsWritten list) → All IsWritten tokens
    behind token None len fine e later = absurd (cc)
    behind token (Some list) len fine e later =
        let are : token ∷ list ≡ tokens = cc in
        subst (All IsWritten) are (All-cons IsWritten token list fine (later list refl))

    by :
        (blank : Bool) → is_blank b ≡ blank → (found : Found) → first_found (b ∷ rest) ≡ found → IsFine found
        → ((n : ℕ) (list : List Token) → tokens_behind n rest ≡ Some list → All IsWritten list) → All IsWritten tokens
    by true blank found first fine later = later 0 tokens (rw blank at is)
    by false blank None first fine later = let none = rw (blank, first) at is in absurd (cc)
    by false blank (Some (token, len)) first fine later =
        behind token (tokens_behind (len - 1) rest) len fine (rw (blank, first) at is) (λ list e. later (len - 1) list e)
