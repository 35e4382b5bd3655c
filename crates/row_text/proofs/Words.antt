-- Short texts as numbers.
use Rattle.std.proofs.Common.{◌≡◌, ℕ, zero, suc, ◌+◌, ◌*◌, ◌^◌, ◌<◌, ◌≤◌, Bool, true, false, cond, nat_lt, List, [], ◌∷◌, ◌++◌, length, drop, get_or, Option, Some, None, refl, sym, ◌∙◌, ap, ap₂, subst, arith, pow-suc}
use Rattle.std.specs.Prelude.{◌==◌, IfSome}
use Rattle.std.specs.Char.{to_ascii_lowercase}
use Rattle.std.specs.Map.{lookup}
use Rattle.std.specs.Option.{option_or}
use Rattle.std.specs.Str.{bytes_eq}
use Rattle.std.proofs.lemmas.Bool.{cond-true, eqb-true, ltb-true}
use Rattle.std.proofs.lemmas.List.{get_or-drop, length-drop, length-map}
use Rattle.std.proofs.lemmas.Slice.Eq.{bytes_eq-Decides}
use Rattle.std.proofs.Math.ListN.{get_or-map}
use Rattle.value_text.specs.believed.Texts.{folded}
use Rattle.row_text.specs.Lookups.{AreBytes, AreWordsOf, number_of, word_of}
use Rattle.row_text.proofs.LookingUp.{number_of-append}

-- ---- no two texts have the same word

pub word_some : (text : List ℕ) → 0 < word_of text
word_some [] = omega arith
word_some (byte ∷ text) = omega (arith, word_some text)

pub word_of_one : (a b : List ℕ) → AreBytes a → AreBytes b → word_of a ≡ word_of b → a ≡ b
word_of_one [] [] small_a small_b same = refl
word_of_one [] (y ∷ b) small_a small_b same = absurd (omega (arith, same, word_some b))
word_of_one (x ∷ a) [] small_a small_b same = absurd (omega (arith, same, word_some a))
word_of_one (x ∷ a) (y ∷ b) small_a small_b same =
    let first : x ≡ y = omega (arith, same, small_a 0, small_b 0) in
    ap₂ (λ byte text. byte ∷ text) first (word_of_one a b (λ i. small_a (suc i)) (λ i. small_b (suc i)) (omega (arith, same, first)))

-- ---- a word of few bytes is small

pub word_below : (text : List ℕ) (k : ℕ) → AreBytes text → length text ≤ k → word_of text < 2 * 256 ^ k
word_below [] zero small few = omega arith
word_below [] (suc k) small few = omega (arith, pow-suc 256 k, word_below [] k small (omega arith))
word_below (byte ∷ text) zero small few = absurd (omega arith)
word_below (byte ∷ text) (suc k) small few = omega (arith, pow-suc 256 k, small 0, word_below text k (λ i. small (suc i)) (omega arith))

-- ---- folding gives bytes

lower_small : (byte : ℕ) → byte < 256 → to_ascii_lowercase byte < 256
lower_small byte small = at (nat_lt byte 65) (nat_lt byte 91) refl
  where
    at : (a b : Bool) → nat_lt byte 91 ≡ b → cond a byte (cond b (byte + 32) byte) < 256
    at true b e = small
    at false true e = omega (arith, ltb-true byte 91 e)
    at false false e = small

pub folded_bytes : (fold : Bool) (text : List ℕ) → AreBytes text → AreBytes (folded fold text)
folded_bytes true text small = λ i. subst (λ n. n < 256) (sym (get_or-map to_ascii_lowercase text i 0)) (lower_small (get_or text i 0) (small i))
folded_bytes false text small = small

length-folded : (fold : Bool) (text : List ℕ) → length (folded fold text) ≡ length text
length-folded true text = length-map text to_ascii_lowercase
length-folded false text = refl

-- the word of all bytes but the first has room for one more
pub word_fits : (fold : Bool) (text : List ℕ) (i word : ℕ) → AreBytes text → length text ≤ 7 → 0 < i → word ≡ word_of (folded fold (drop i text)) → word < 2 ^ 49
word_fits fold text i word small few behind is =
    let rest = drop i text in
    let bytes : AreBytes rest = λ k. subst (λ n. n < 256) (sym (get_or-drop i text k 0)) (small (i + k)) in
    subst (λ n. n < 2 ^ 49) (sym is)
    (word_below (folded fold rest) 6 (folded_bytes fold rest bytes) (omega (arith, few, behind, length-folded fold rest, length-drop i text)))

-- ---- what a word finds

pub found_by_word : (pairs : List (List ℕ × ℕ)) (words : List (ℕ × ℕ)) (text : List ℕ) (found : Option ℕ) → AreWordsOf pairs words → AreBytes text
    → found ≡ lookup (λ known. word_of text == known) words → IfSome found (λ n. number_of pairs text ≡ Some n)
found_by_word pairs words text None are small is = tt
found_by_word pairs words text (Some n) are small is = are text n small (sym is)

-- ---- one more text

pub words_keep : (pairs more : List (List ℕ × ℕ)) (words : List (ℕ × ℕ)) (text : List ℕ) (n : ℕ) → AreWordsOf pairs words → more ≡ pairs ++ (text, n) ∷ [] → AreWordsOf more words
words_keep pairs more words text n are is = λ key m small found.
    ap (λ list. number_of list key) is ∙ number_of-append pairs ((text, n) ∷ []) key ∙ ap (λ o. option_or o (number_of ((text, n) ∷ []) key)) (are key m small found)

-- also by its word
pub words_put : (pairs more : List (List ℕ × ℕ)) (words more_words : List (ℕ × ℕ)) (text : List ℕ) (n : ℕ) → AreWordsOf pairs words → more ≡ pairs ++ (text, n) ∷ []
    → AreBytes text → number_of pairs text ≡ None
    → ((word : ℕ) → lookup (λ known. word == known) more_words ≡ cond (word_of text == word) (Some n) (lookup (λ known. word == known) words))
    → AreWordsOf more more_words
words_put pairs more words more_words text n are is small none put = λ key m bytes found. at key m bytes (word_of text == word_of key) refl (sym (put (word_of key)) ∙ found)
  where
    at : (key : List ℕ) (m : ℕ) → AreBytes key → (b : Bool) → (word_of text == word_of key) ≡ b
        → cond b (Some n) (lookup (λ known. word_of key == known) words) ≡ Some m → number_of more key ≡ Some m
    at key m bytes true e found =
        let same : text ≡ key = word_of_one text key small bytes (eqb-true _ _ e) in
        ap (λ list. number_of list key) is ∙ number_of-append pairs ((text, n) ∷ []) key
        ∙ ap (λ o. option_or o (number_of ((text, n) ∷ []) key)) (ap (number_of pairs) (sym same) ∙ none)
        ∙ cond-true (bytes_eq text key) (Some n) None ((bytes_eq-Decides text key).1 same) ∙ found
    at key m bytes false e found = words_keep pairs more words text n are is key m bytes found
