-- Where texts are cut.
use Rattle.std.proofs.Common.{◌≡◌, ℕ, ◌-◌, ◌<◌, ◌≤◌, Bool, true, false, not, List, length, take, reverse, get_or, ◌∙◌, subst, arith}
use Rattle.std.proofs.lemmas.Bool.{and_parts, ltb-true, not-true, not-false}
use Rattle.std.proofs.lemmas.Bool.Decides.{nat_tests}
use Rattle.std.proofs.lemmas.List.{get_or-reverse, length-reverse}
use Rattle.std.proofs.lemmas.List.Elements.{All-from_get_or}
use Rattle.std.proofs.lemmas.List.Folds.{list_any_none, list_any_at}
use Rattle.std.proofs.lemmas.List.Sorted.{IsPermutation-reverse, list_any-IsPermutation}
use Rattle.std.proofs.lemmas.List.Sums.{suffix_len-le-length, prefix_len_passes, prefix_len_stops}
use Rattle.std.proofs.lemmas.Str.{IsCharBoundary-after_ascii, IsCharBoundary-before_ascii}
use Rattle.std.specs.Char.{is_ascii_digit}
use Rattle.std.specs.List.{prefix_len, suffix_len, list_any, slice_range}
use Rattle.std.specs.Str.{IsUtf8, IsCharBoundary}
use Rattle.model_parse.specs.believed.Pieces.{is_byte, begins_with}
use borrow.Author.Tests.{eqb-true}

-- behind an ASCII mark at the start a text may be cut
pub begins_cut : (mark : ℕ) (text : List ℕ) → mark < 128 → IsUtf8 text → begins_with mark text ≡ true → IsCharBoundary text 1
begins_cut mark text ascii utf8 begins =
    let parts = and_parts _ _ begins in
    let some : 0 < length text = ltb-true 0 (length text) parts.0 in
    let first : get_or text 0 0 ≡ mark = eqb-true (get_or text 0 0) mark parts.1 in
    IsCharBoundary-after_ascii text 0 utf8 some (omega arith)

-- what stands so many bytes before the end
from_end : (text : List ℕ) (n : ℕ) → n < length text → get_or (reverse text) n 0 ≡ get_or text (length text - 1 - n) 0
from_end text n within = get_or-reverse text n 0 within

-- a mark stands in a text where not each byte is another
first_mark : (p : ℕ → Bool) (xs : List ℕ) → (length xs ≤ prefix_len (λ x. not (p x)) xs → list_any p xs ≡ false) × (prefix_len (λ x. not (p x)) xs < length xs → list_any p xs ≡ true)
first_mark p xs = (none, some)
  where
    none : length xs ≤ prefix_len (λ x. not (p x)) xs → list_any p xs ≡ false
    none h = list_any_none p xs (All-from_get_or (λ x. p x ≡ false) xs 0 (λ i within. not-true (p (get_or xs i 0)) (prefix_len_passes (λ x. not (p x)) xs i 0 (omega arith))))

    some : prefix_len (λ x. not (p x)) xs < length xs → list_any p xs ≡ true
    some h = list_any_at p xs (prefix_len (λ x. not (p x)) xs) 0 h (not-false (p (get_or xs (prefix_len (λ x. not (p x)) xs) 0)) (prefix_len_stops (λ x. not (p x)) xs 0 h))

-- the same from the end
turned : (p : ℕ → Bool) (xs : List ℕ) → list_any p xs ≡ list_any p (reverse xs)
turned p xs = list_any-IsPermutation p xs (reverse xs) (IsPermutation-reverse xs)

pub none_behind : (p : ℕ → Bool) (xs : List ℕ) (n : ℕ) → n ≡ suffix_len (λ x. not (p x)) xs → n ≡ length xs → list_any p xs ≡ false
none_behind p xs n e whole = turned p xs ∙ (first_mark p (reverse xs)).0 (omega (arith, length-reverse xs))

-- where it stands somewhere, the text may be cut before and behind the last one
pub record LastMark (mark : ℕ) (text : List ℕ) (n : ℕ) : Type 0 where
  pub within : n < length text
  pub stands : list_any (is_byte mark) text ≡ true
  pub before : IsCharBoundary text (length text - n - 1)
  pub behind : IsCharBoundary text (length text - n)

pub last_mark : (mark : ℕ) (text : List ℕ) (n : ℕ) → mark < 128 → IsUtf8 text → n ≡ suffix_len (λ x. not (is_byte mark x)) text → (n ≡ length text → ⊥) → LastMark mark text n
last_mark mark text n ascii utf8 e some =
    let most : suffix_len (λ x. not (is_byte mark x)) text ≤ length text = suffix_len-le-length (λ x. not (is_byte mark x)) text in
    let within : n < length text = omega (arith, some) in
    let stops : not (is_byte mark (get_or (reverse text) (suffix_len (λ x. not (is_byte mark x)) text) 0)) ≡ false =
    prefix_len_stops (λ x. not (is_byte mark x)) (reverse text) 0 (omega (arith, length-reverse text)) in
    let here : get_or (reverse text) n 0 ≡ mark = eqb-true _ _ (rw (← e) at (not-false _ stops)) in
    let at : get_or text (length text - 1 - n) 0 < 128 = rw (← from_end text n within) (rw here ascii) in
    record {
      within = within;
      stands = turned (is_byte mark) text ∙ (first_mark (is_byte mark) (reverse text)).1 (omega (arith, length-reverse text));
      before = subst (λ k. IsCharBoundary text k) (omega arith) (IsCharBoundary-before_ascii text (length text - 1 - n) (omega arith) at);
      behind = subst (λ k. IsCharBoundary text k) (omega arith) (IsCharBoundary-after_ascii text (length text - 1 - n) utf8 (omega arith) at);
    }

pub front_is : (text : List ℕ) (n : ℕ) → slice_range text 0 n ≡ take n text
front_is text n = grind arith

pub ascii_digit : (b : ℕ) → is_ascii_digit b ≡ true → b < 128
ascii_digit b e = grind (arith, nat_tests)
