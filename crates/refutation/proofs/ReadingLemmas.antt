-- Texts that are cut at a mark, and numbers in decimal.
use Rattle.std.proofs.Common.{◌≡◌, ℕ, suc, ◌+◌, ◌-◌, ◌*◌, ◌^◌, ◌<◌, ◌≤◌, Bool, true, false, ◌&&◌, cond, List, [], ◌∷◌, length, get_or}
use Rattle.std.proofs.Common.{take, drop, Option, Some, None, ◌∙◌, sym, ap, refl, arith, inl, inr, lt-ltb}
use Rattle.std.specs.Prelude.{◌==◌, nat_lt, option_and_then}
use Rattle.std.specs.List.{list_all, position, position_or_len}
use Rattle.std.specs.Char.{is_ascii_digit}
use Rattle.std.specs.Int.{IsInRange}
use Rattle.std.specs.Str.Parse.{digits_value}
use Rattle.std.proofs.lemmas.Bool.{cases_Bool, false≢true, false_from_ne_true, le-ltb, ltb-true, ltb-false}
use Rattle.std.proofs.lemmas.List.Splits.{slice_split_first}
use Rattle.std.proofs.lemmas.Int.Digits.{digits_value_more}
use Rattle.std.proofs.lemmas.Str.{digit_value_digit}
use Rattle.std.proofs.lemmas.Str.Parse.{digit_at, digits_value-take-le}
use Rattle.value_text.proofs.DigitLemmas.{all_digits}
use Rattle.definitions.specs.believed.ProofText.{number_where}
use Rattle.refutation.specs.Reading.{pieces, is_numeral}

-- ---- cutting

-- a text without a mark is one piece
one_piece : (mark : ℕ) (text : List ℕ) → length text ≤ position_or_len (λ b. b == mark) text → pieces mark text ≡ text ∷ []
one_piece mark [] whole = refl
one_piece mark (b ∷ text) whole = at (b == mark) refl (one_piece mark text)
  where
    at : (ends : Bool) → (b == mark) ≡ ends → (length text ≤ position_or_len (λ b. b == mark) text → pieces mark text ≡ text ∷ []) → pieces mark (b ∷ text) ≡ (b ∷ text) ∷ []
    at true e rest = let over : suc (length text) ≤ 0 = rw e at whole in absurd (omega arith)
    at false e rest = let left : suc (length text) ≤ 1 + position_or_len (λ b. b == mark) text = rw e at whole in rw (e, rest (omega arith)) refl

pub pieces_some : (mark : ℕ) (text : List ℕ) (end : ℕ) → position (λ b. b == mark) text ≡ Some end → pieces mark text ≡ take end text ∷ pieces mark (drop (end + 1) text)
pieces_some mark text end found = at (nat_lt (position_or_len (λ b. b == mark) text) (length text)) refl found
  where
    at : (within : Bool) → nat_lt (position_or_len (λ b. b == mark) text) (length text) ≡ within
        → cond within (Some (position_or_len (λ b. b == mark) text)) None ≡ Some end → pieces mark text ≡ take end text ∷ pieces mark (drop (end + 1) text)
    at true e is_end =
        let place : position_or_len (λ b. b == mark) text ≡ end = cc in
        slice_split_first (λ b. b == mark) text 0 (ltb-true (position_or_len (λ b. b == mark) text) (length text) e)
        ∙ ap (λ (i : ℕ). take i text ∷ pieces mark (drop (i + 1) text)) place
    at false e is_end = cc

pub pieces_none : (mark : ℕ) (text : List ℕ) → position (λ b. b == mark) text ≡ None → pieces mark text ≡ text ∷ []
pieces_none mark text none = at (nat_lt (position_or_len (λ b. b == mark) text) (length text)) refl none
  where
    at : (within : Bool) → nat_lt (position_or_len (λ b. b == mark) text) (length text) ≡ within
        → cond within (Some (position_or_len (λ b. b == mark) text)) None ≡ None → pieces mark text ≡ text ∷ []
    at true e is_none = cc
    at false e is_none = one_piece mark text (ltb-false (position_or_len (λ b. b == mark) text) (length text) e)

-- ---- numbers

-- one more digit
pub record IsDigit (text : List ℕ) (i value : ℕ) : Type 0 where
  pub least : 48 ≤ get_or text i 0
  pub most : get_or text i 0 ≤ 57
  pub more : value * 10 + (get_or text i 0 - 48) ≡ digits_value 10 (take (i + 1) text)
  pub below : value * 10 + (get_or text i 0 - 48) ≤ digits_value 10 text

pub digit_is : (text : List ℕ) (i value : ℕ) → list_all is_ascii_digit text ≡ true → i < length text → value ≡ digits_value 10 (take i text) → IsDigit text i value
digit_is text i value are within is =
    let digit : IsInRange 48 57 (get_or text i 0) = digit_at text i (all_digits text are) within in
    let more = digits_value_more 10 text i within in
    let one = digit_value_digit (get_or text i 0) digit in
    let below = digits_value-take-le 10 text (i + 1) (omega arith) in
    let sum : value * 10 + (get_or text i 0 - 48) ≡ digits_value 10 (take (i + 1) text) = grind arith in
    record { least = digit.0; most = omega (arith, digit.1); more = sum; below = omega arith }

-- a number that passes a test which no large number passes
pub narrowed : (test : ℕ → Bool) (text : List ℕ) → ((n : ℕ) → test n ≡ true → n < 2 ^ 32)
    → number_where test text ≡ option_and_then (λ n. cond (test n) (Some n) None) (number_where (λ n. nat_lt n (2 ^ 32)) text)
narrowed test text small = at (is_numeral text) (digits_value 10 text)
  where
    at : (spelled : Bool) (value : ℕ) → cond (spelled && test value) (Some value) None
        ≡ option_and_then (λ n. cond (test n) (Some n) None) (cond (spelled && nat_lt value (2 ^ 32)) (Some value) None)
    at false value = refl
    at true value =
        elim (cases_Bool (nat_lt value (2 ^ 32))) [
          | inl few ↦ rw few refl
          | inr large ↦ elim (cases_Bool (test value)) [
            | inl passes ↦ absurd (false≢true (sym large ∙ lt-ltb value (2 ^ 32) (small value passes)))
            | inr fails ↦ rw (large, fails) refl
          ]
        ]
