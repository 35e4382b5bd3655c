-- The tokens of a text, one after another.
use Rattle.std.proofs.Common.{◌≡◌, ℕ, zero, suc, ◌+◌, ◌-◌, ◌<◌, Bool, true, false, List, [], ◌∷◌, ◌++◌, length, drop, get_or}
use Rattle.std.proofs.Common.{Option, Some, None, refl, sym, ap, ◌∙◌, append_assoc, append-nil, arith, add-one, one-add}
use Rattle.model_lex.specs.believed.Blanks.{without_first_blanks}
use Rattle.value_text.specs.believed.Texts.{is_blank}
use Rattle.model_lex.proofs.Opening.{solid}
use Rattle.acts_front.specs.believed.Tokens.{Token, Found, first_found, len_behind, before_tokens, tokens_behind}

-- tokens before those of a rest
abbrev pub more_tokens : List Token → Option (List Token) → Option (List Token)
more_tokens read (Some tokens) = Some (read ++ tokens)
more_tokens read None = None

skipped : (n : ℕ) (text : List ℕ) → tokens_behind n text ≡ tokens_behind 0 (drop n text)
skipped zero text = refl
skipped (suc n) [] = refl
skipped (suc n) (b ∷ text) = skipped n text

blanks_skipped : (text : List ℕ) → tokens_behind 0 (without_first_blanks text) ≡ tokens_behind 0 text
blanks_skipped [] = refl
blanks_skipped (b ∷ text) = at (is_blank b) refl (blanks_skipped text)
  where
    at : (blank : Bool) → is_blank b ≡ blank → tokens_behind 0 (without_first_blanks text) ≡ tokens_behind 0 text
        → tokens_behind 0 (without_first_blanks (b ∷ text)) ≡ tokens_behind 0 (b ∷ text)
    at true e rest = rw (e, one-add) rest
    at false e rest =
        let same : without_first_blanks (b ∷ text) ≡ b ∷ text = rw e refl in
        ap (tokens_behind 0) same

-- a token behind blanks
token_here : (text : List ℕ) (found : Found) → 0 < length text → is_blank (get_or text 0 0) ≡ false
    → first_found text ≡ found → tokens_behind 0 text ≡ before_tokens found (tokens_behind 0 (drop (len_behind found + 1) text))
token_here [] found some dense is = absurd (omega arith)
token_here (b ∷ text) found some dense is =
    let step : tokens_behind 0 (b ∷ text) ≡ before_tokens (first_found (b ∷ text)) (tokens_behind (len_behind (first_found (b ∷ text))) text) = rw dense refl in
    step ∙ (ap (λ f. before_tokens f (tokens_behind (len_behind f) text)) is ∙ (ap (before_tokens found) (skipped (len_behind found) text) ∙ (rw add-one refl)))

empty : (read : List Token) (text : List ℕ) → length text ≡ 0 → more_tokens read (tokens_behind 0 text) ≡ Some read
empty read [] none = ap Some (append-nil read)
empty read (b ∷ text) none = absurd (omega arith)

onto : (read : List Token) (token : Token) (len : ℕ) (tokens : Option (List Token)) → more_tokens read (before_tokens (Some (token, len)) tokens) ≡ more_tokens (read ++ token ∷ []) tokens
onto read token len (Some tokens) = ap Some (sym (append_assoc read (token ∷ []) tokens))
onto read token len None = refl

module _ (whole : Option (List Token)) (read : List Token) (ahead : List ℕ) (here : whole ≡ more_tokens read (tokens_behind 0 ahead)) where
  pub all_read : length (without_first_blanks ahead) ≡ 0 → whole ≡ Some read
  all_read none = here ∙ (ap (more_tokens read) (sym (blanks_skipped ahead)) ∙ empty read (without_first_blanks ahead) none)

  pub none_read : 0 < length (without_first_blanks ahead) → first_found (without_first_blanks ahead) ≡ None → whole ≡ None
  none_read some none =
      here ∙ ap (more_tokens read) (sym (blanks_skipped ahead) ∙ token_here (without_first_blanks ahead) None some (solid ahead some) none)

  pub one_read : (token : Token) (len : ℕ) (more : List Token) → 0 < length (without_first_blanks ahead)
      → first_found (without_first_blanks ahead) ≡ Some (token, len) → 0 < len → more ≡ read ++ token ∷ []
      → whole ≡ more_tokens more (tokens_behind 0 (drop len (without_first_blanks ahead)))
  one_read token len more some is longer grown =
      let size : len - 1 + 1 ≡ len = omega arith in
      here
      ∙ (ap (more_tokens read) (sym (blanks_skipped ahead) ∙ (token_here (without_first_blanks ahead) (Some (token, len)) some (solid ahead some) is
      ∙ ap (λ n. before_tokens (Some (token, len)) (tokens_behind 0 (drop n (without_first_blanks ahead)))) size))
      ∙ (onto read token len (tokens_behind 0 (drop len (without_first_blanks ahead))) ∙ ap (λ list. more_tokens list (tokens_behind 0 (drop len (without_first_blanks ahead)))) (sym grown)))
