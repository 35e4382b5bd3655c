-- Runs: how many elements at the start of a list pass a test, and where a text may be cut behind them.
use Rattle.std.proofs.Common.{◌≡◌, ℕ, zero, suc, ◌+◌, ◌-◌, ◌<◌, ◌≤◌, Bool, true, false, ◌&&◌, cond, List, [], ◌∷◌, length}
use Rattle.std.proofs.Common.{drop, reverse, get_or, refl, subst, ◌∙◌, sym, one-add, arith, length-drop, get_or-drop}
use Rattle.std.proofs.lemmas.Bool.{ne_eqb}
use Rattle.std.proofs.lemmas.Bool.Decides.{nat_tests}
use Rattle.std.proofs.lemmas.List.{get_or-reverse}
use Rattle.std.proofs.lemmas.List.Folds.{length-prefix_len}
use Rattle.std.proofs.lemmas.List.Sums.{prefix_len-le-length, prefix_len_passes, suffix_len-le-length}
use Rattle.std.proofs.lemmas.Str.{IsCharBoundary-after_ascii, IsCharBoundary-before_ascii, IsCharBoundary-start, IsCharBoundary-end}
use Rattle.std.specs.List.{prefix_len, suffix_len, take_while, list_all}
use Rattle.std.specs.Prelude.{nat_eq}
use Rattle.std.specs.Str.{IsUtf8, IsCharBoundary}
use Rattle.model_lex.specs.believed.Blanks.{is_all_blank, without_first_blanks}
use Rattle.value_text.specs.believed.Texts.{is_blank}
use Rattle.model_lex.specs.believed.Sections.{is_word_byte}
use Rattle.model_lex.specs.believed.Tokens.{is_number_byte}

-- the run that `take_while` takes is so long
pub run_len : (p : ℕ → Bool) (xs : List ℕ) → length (take_while p xs) ≡ prefix_len p xs
run_len p xs = length-prefix_len p xs

pub run_within : (p : ℕ → Bool) (xs : List ℕ) → prefix_len p xs ≤ length xs
run_within p xs = prefix_len-le-length p xs

-- all elements pass exactly where the run leaves nothing
pub all_is_nothing_left : (p : ℕ → Bool) (xs : List ℕ) → list_all p xs ≡ nat_eq (length (drop (prefix_len p xs) xs)) 0
all_is_nothing_left p [] = refl
all_is_nothing_left p (x ∷ xs) = at (p x) (all_is_nothing_left p xs)
  where
    at : (b : Bool) → list_all p xs ≡ nat_eq (length (drop (prefix_len p xs) xs)) 0 → (b && list_all p xs) ≡ nat_eq (length (drop (cond b (1 + prefix_len p xs) 0) (x ∷ xs))) 0
    at true rest = rest ∙ rw one-add
    at false rest = sym (ne_eqb (suc (length xs)) 0 (λ z. omega arith))

-- a text is blank exactly where nothing is left without its first blanks
pub all_blank_is : (text : List ℕ) → is_all_blank text ≡ nat_eq (length (without_first_blanks text)) 0
all_blank_is text = all_is_nothing_left is_blank text

-- blanks and what words and numbers are made of are ASCII
pub ascii_blank : (b : ℕ) → is_blank b ≡ true → b < 128
ascii_blank b e = grind (arith, nat_tests)

pub ascii_word : (b : ℕ) → is_word_byte b ≡ true → b < 128
ascii_word b e = grind (arith, nat_tests)

pub ascii_number : (b : ℕ) → is_number_byte b ≡ true → b < 128
ascii_number b e = grind (arith, nat_tests)

-- behind a run of ASCII bytes a text may be cut
pub run_boundary :
    (p : ℕ → Bool) → ((b : ℕ) → p b ≡ true → b < 128)
    → (text : List ℕ) (at : ℕ) → IsUtf8 text → IsCharBoundary text at
    → (n : ℕ) → n ≤ prefix_len p (drop at text) → IsCharBoundary text (at + n)
run_boundary p ascii text at utf8 here zero short = subst (λ k. IsCharBoundary text k) (omega arith) here
run_boundary p ascii text at utf8 here (suc n) short =
    let within : prefix_len p (drop at text) ≤ length text - at = rw (← length-drop at text) (prefix_len-le-length p (drop at text)) in
    let passes : get_or text (at + n) 0 < 128 = rw (← get_or-drop at text n 0) (ascii (get_or (drop at text) n 0) (prefix_len_passes p (drop at text) n 0 (omega arith))) in
    subst (λ k. IsCharBoundary text k) (omega arith) (IsCharBoundary-after_ascii text (at + n) utf8 (omega arith) passes)

pub run_ends : (p : ℕ → Bool) → ((b : ℕ) → p b ≡ true → b < 128) → (text : List ℕ) → IsUtf8 text → (n : ℕ) → n ≡ prefix_len p text → IsCharBoundary text n
run_ends p ascii text utf8 n len =
    let from : IsCharBoundary text (0 + n) = run_boundary p ascii text 0 utf8 (IsCharBoundary-start text utf8) n (omega arith) in
    subst (λ k. IsCharBoundary text k) (omega arith) from

-- before a run of ASCII bytes at the end too
pub suffix_cut : (p : ℕ → Bool) → ((b : ℕ) → p b ≡ true → b < 128) → (text : List ℕ) (n : ℕ) → n ≡ suffix_len p text → IsCharBoundary text (length text - n)
suffix_cut p ascii text zero e = subst (λ k. IsCharBoundary text k) (omega arith) (IsCharBoundary-end text)
suffix_cut p ascii text (suc m) e =
    let within : suffix_len p text ≤ length text = suffix_len-le-length p text in
    let here : get_or text (length text - 1 - m) 0 < 128 = rw (← get_or-reverse text m 0 (omega arith)) (ascii (get_or (reverse text) m 0) (prefix_len_passes p (reverse text) m 0 (omega arith))) in
    subst (λ k. IsCharBoundary text k) (omega arith) (IsCharBoundary-before_ascii text (length text - 1 - m) (omega arith) here)
