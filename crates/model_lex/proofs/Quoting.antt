-- The search for the closing mark of a name or a text, from place to place.
use Rattle.std.proofs.Common.{◌≡◌, ℕ, ◌+◌, ◌<◌, ◌≤◌, true, false, List, [], ◌∷◌, length, drop, get_or, refl, ap, arith, ◌∙◌, sym, get_or-drop, length-drop}
use Rattle.std.proofs.lemmas.Bool.{eq-eqb, ne_eqb}
use Rattle.std.proofs.lemmas.Bool.Decides.{nat_tests}
use Rattle.std.proofs.lemmas.List.{drop_all, drop-drop}
use Rattle.std.specs.Option.{option_map}
use Rattle.std.specs.Prelude.{Option, Some, None}
use Rattle.model_lex.specs.believed.Tokens.{quoted_len}
use Rattle.model_lex.specs.Tokens.{quotes_next}
use Rattle.value_text.proofs.ListLemmas.{add_zero}

-- the text is searched up to a place
pub record QuotedFrom (close : ℕ) (text : List ℕ) (at : ℕ) : Type 0 where
  pub within : at ≤ length text
  pub same : quoted_len close text ≡ option_map (λ n. at + n) (quoted_len close (drop at text))

mapped_twice : (found : Option ℕ) (a b : ℕ) → option_map (λ n. a + n) (option_map (λ n. b + n) found) ≡ option_map (λ n. a + b + n) found
mapped_twice None a b = refl
mapped_twice (Some n) a b = ap Some (omega arith)

pub at_start : (close : ℕ) (text : List ℕ) → QuotedFrom close text 0
at_start close text = record { within = omega arith; same = add_zero (quoted_len close text) }

-- at the closing mark, at a quoted byte, and at another
pub closed_here : (close : ℕ) (text : List ℕ) → 0 < length text → get_or text 0 0 ≡ close → quoted_len close text ≡ Some 0
closed_here close [] some here = absurd (omega arith)
closed_here close (b ∷ []) some here = rw (eq-eqb b close here) refl
closed_here close (b ∷ next ∷ rest) some here = rw (eq-eqb b close here) refl

pub quoted_here : (close : ℕ) (text : List ℕ) → (get_or text 0 0 ≡ close → ⊥) → quotes_next text ≡ true
    → quoted_len close text ≡ option_map (λ n. 2 + n) (quoted_len close (drop 2 text))
quoted_here close [] open_yet quotes = refl
quoted_here close (b ∷ []) open_yet quotes = rw (ne_eqb b close open_yet) refl
quoted_here close (b ∷ next ∷ rest) open_yet quotes = rw (ne_eqb b close open_yet, quotes) refl

pub passed_here : (close : ℕ) (text : List ℕ) → (get_or text 0 0 ≡ close → ⊥) → quotes_next text ≡ false
    → quoted_len close text ≡ option_map (λ n. 1 + n) (quoted_len close (drop 1 text))
passed_here close [] open_yet quotes = refl
passed_here close (b ∷ []) open_yet quotes = rw (ne_eqb b close open_yet) refl
passed_here close (b ∷ next ∷ rest) open_yet quotes = rw (ne_eqb b close open_yet, quotes) refl

pub two_bytes : (text : List ℕ) → quotes_next text ≡ true → 2 ≤ length text
two_bytes [] quotes = absurd (grind (arith, nat_tests))
two_bytes (b ∷ []) quotes = absurd (grind (arith, nat_tests))
two_bytes (b ∷ next ∷ rest) quotes = omega arith

-- the search stands at a place
module _ (close : ℕ) (text : List ℕ) (at : ℕ) (here : QuotedFrom close text at) where
  moved : (k : ℕ) → quoted_len close (drop at text) ≡ option_map (λ n. k + n) (quoted_len close (drop k (drop at text)))
      → quoted_len close text ≡ option_map (λ n. at + k + n) (quoted_len close (drop (at + k) text))
  moved k step =
      here.same ∙ (ap (λ found. option_map (λ n. at + n) found) step
      ∙ (mapped_twice (quoted_len close (drop k (drop at text))) at k ∙ ap (λ left. option_map (λ n. at + k + n) (quoted_len close left)) (drop-drop k at text)))

  here_first : get_or text at 0 ≡ get_or (drop at text) 0 0
  here_first = sym (get_or-drop at text 0 0 ∙ ap (λ k. get_or text k 0) (omega arith))

  -- a quoted byte stands behind the backslash
  two_left : at < length text → quotes_next (drop at text) ≡ true → at + 2 ≤ length text
  two_left short quotes = let more : 2 ≤ length (drop at text) = two_bytes (drop at text) quotes in omega (arith, length-drop at text)

  pub closes : at < length text → get_or text at 0 ≡ close → quoted_len close text ≡ Some at
  closes short mark =
      let first : get_or (drop at text) 0 0 ≡ close = get_or-drop at text 0 0 ∙ (ap (λ k. get_or text k 0) (omega arith) ∙ mark) in
      let left : 0 < length (drop at text) = omega (arith, length-drop at text) in
      let place : at + 0 ≡ at = omega arith in
      here.same ∙ rw (closed_here close (drop at text) left first, place) refl

  pub steps_two : at < length text → (get_or text at 0 ≡ close → ⊥) → quotes_next (drop at text) ≡ true → QuotedFrom close text (at + 2)
  steps_two short other quotes = record {
    within = two_left short quotes;
    same = moved 2 (quoted_here close (drop at text) (λ e. other (here_first ∙ e)) quotes);
  }

  pub steps_one : at < length text → (get_or text at 0 ≡ close → ⊥) → quotes_next (drop at text) ≡ false → QuotedFrom close text (at + 1)
  steps_one short other quotes = record { within = omega arith; same = moved 1 (passed_here close (drop at text) (λ e. other (here_first ∙ e)) quotes) }

  pub is_open : length text ≤ at → quoted_len close text ≡ None
  is_open over = here.same ∙ rw (drop_all at text over) refl
