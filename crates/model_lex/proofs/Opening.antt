-- What opens a constraint, word by word.
use Rattle.std.proofs.Common.{◌≡◌, ℕ, zero, suc, ◌<◌, Bool, true, false, List, [], ◌∷◌, length, drop, get_or, refl, ap, arith, ◌∙◌, sym, one-add, sub-one}
use Rattle.std.proofs.lemmas.Bool.{lt-ltb}
use Rattle.model_lex.specs.believed.Blanks.{without_first_blanks}
use Rattle.value_text.specs.believed.Texts.{is_blank}
use Rattle.model_lex.specs.believed.Sections.{goes_on, is_opening_mark, opening_len}

-- what goes on behind a word
pub goes_on_inside : (n : ℕ) (text : List ℕ) → goes_on n text ≡ goes_on 0 (drop n text)
goes_on_inside zero text = refl
goes_on_inside (suc n) [] = refl
goes_on_inside (suc n) (b ∷ text) = goes_on_inside n text

-- blanks change nothing
pub goes_on_blanks : (text : List ℕ) → goes_on 0 (without_first_blanks text) ≡ goes_on 0 text
goes_on_blanks [] = refl
goes_on_blanks (b ∷ text) = at (is_blank b) refl (goes_on_blanks text)
  where
    at : (blank : Bool) → is_blank b ≡ blank → goes_on 0 (without_first_blanks text) ≡ goes_on 0 text → goes_on 0 (without_first_blanks (b ∷ text)) ≡ goes_on 0 (b ∷ text)
    at true e rest = rw (e, one-add) rest
    at false e rest =
        let same : without_first_blanks (b ∷ text) ≡ b ∷ text = rw e in
        ap (λ left. goes_on 0 left) same

-- what is left without the first blanks begins with none
pub solid : (text : List ℕ) → 0 < length (without_first_blanks text) → is_blank (get_or (without_first_blanks text) 0 0) ≡ false
solid [] some = absurd (omega arith)
solid (b ∷ text) some = at (is_blank b) refl (solid text)
  where
    at :
        (blank : Bool) → is_blank b ≡ blank
        → (0 < length (without_first_blanks text) → is_blank (get_or (without_first_blanks text) 0 0) ≡ false)
        → is_blank (get_or (without_first_blanks (b ∷ text)) 0 0) ≡ false
    at true e rest =
        let step : without_first_blanks (b ∷ text) ≡ without_first_blanks text = rw (e, one-add) refl in
        rw step (rest (rw step at some))
    at false e rest = rw e e

-- what stands behind opening words: it goes on as the whole, and begins with no blank
pub record StandsBehind (text rest : List ℕ) : Type 0 where
  pub same : goes_on 0 text ≡ goes_on 0 rest
  pub solid : 0 < length rest → is_blank (get_or rest 0 0) ≡ false

pub behind_blanks : (text : List ℕ) → StandsBehind text (without_first_blanks text)
behind_blanks text = record { same = sym (goes_on_blanks text); solid = solid text }

-- at a mark, at a word that is none of those that open, and behind one
pub at_mark : (text rest : List ℕ) → StandsBehind text rest → 0 < length rest → is_opening_mark (get_or rest 0 0) ≡ true → goes_on 0 text ≡ true
at_mark text [] here some mark = absurd (omega arith)
at_mark text (b ∷ rest) here some mark = here.same ∙ rw (here.solid some, mark) refl

pub at_other : (text rest : List ℕ) → StandsBehind text rest → 0 < length rest → is_opening_mark (get_or rest 0 0) ≡ false → opening_len rest ≡ 0 → goes_on 0 text ≡ false
at_other text [] here some mark none = absurd (omega arith)
at_other text (b ∷ rest) here some mark none = here.same ∙ rw (here.solid some, mark, none) refl

pub behind_word :
    (text rest : List ℕ) → StandsBehind text rest → 0 < length rest → is_opening_mark (get_or rest 0 0) ≡ false
    → (n : ℕ) → n ≡ opening_len rest → 0 < n → StandsBehind text (without_first_blanks (drop n rest))
behind_word text [] here some mark n len opens = absurd (omega arith)
behind_word text (b ∷ rest) here some mark zero len opens = absurd (omega arith)
behind_word text (b ∷ rest) here some mark (suc n) len opens = record {
  same = here.same ∙ (rw (here.solid some, mark, ← len, sub-one, lt-ltb 0 (suc n) opens) (goes_on_inside n rest) ∙ sym (goes_on_blanks (drop n rest)));
  solid = solid (drop n rest);
}

pub at_end : (text rest : List ℕ) → StandsBehind text rest → length rest ≡ 0 → goes_on 0 text ≡ true
at_end text [] here none = here.same
at_end text (b ∷ rest) here none = absurd (omega arith)
