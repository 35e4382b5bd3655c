-- The digits of a text: the test on them, and the number that they write.
use Rattle.std.proofs.Common.{◌≡◌, ℕ, ◌+◌, ◌-◌, ◌*◌, ◌^◌, ◌<◌, ◌≤◌, Bool, true, ◌&&◌, List}
use Rattle.std.proofs.Common.{[], ◌∷◌, ◌++◌, length, take, take_all, get_or, refl, ◌∙◌, arith}
use Rattle.std.proofs.lemmas.Bool.Decides.{nat_tests}
use Rattle.std.proofs.lemmas.Int.Digits.{digits_value-lt, digits_value_more}
use Rattle.std.proofs.lemmas.Str.Parse.{digits_value-take-le, digit_at}
use Rattle.std.proofs.lemmas.Str.{digit_value_digit}
use Rattle.std.specs.List.{list_all}
use Rattle.std.specs.Int.{IsInRange}
use Rattle.std.specs.Char.{is_ascii_digit, digit_value}
use Rattle.std.specs.Str.Parse.{AllDigits, digits_value, digits_value_after}
use Rattle.std.proofs.Math.Nat.{pow-le-pow_right, pow-suc}
use Rattle.value_text.specs.believed.Numbers.{is_digits}

-- a text that is not empty is digits where each byte is one
pub is_digits_nonempty : (text : List ℕ) → 0 < length text → is_digits text ≡ list_all is_ascii_digit text
is_digits_nonempty text some = grind (arith, nat_tests)

digit_below_ten : (b : ℕ) (rest : Bool) → is_ascii_digit b && rest ≡ true → (digit_value b < 10) × (rest ≡ true)
digit_below_ten b rest are = (grind (arith, nat_tests), grind (arith, nat_tests))

-- the test in the words of `parse`
pub all_digits : (text : List ℕ) → list_all is_ascii_digit text ≡ true → AllDigits 10 text
all_digits [] are = tt
all_digits (b ∷ rest) are =
    let parts = digit_below_ten b (list_all is_ascii_digit rest) are in
    (parts.0, all_digits rest parts.1)

-- one more digit, among at most 38
pub record Grows (text : List ℕ) (i value : ℕ) : Type 0 where
  pub digit : 48 ≤ get_or text i 0
  pub more : value * 10 + (get_or text i 0 - 48) ≡ digits_value 10 (take (i + 1) text)
  pub small : value * 10 + (get_or text i 0 - 48) < 2 ^ 128

pub value_small : (text : List ℕ) → list_all is_ascii_digit text ≡ true → digits_value 10 text < 10 ^ length text
value_small text are = digits_value-lt 10 text (all_digits text are)

pub grows : (text : List ℕ) (i value : ℕ) → list_all is_ascii_digit text ≡ true → length text ≤ 38 → i < length text → value ≡ digits_value 10 (take i text) → Grows text i value
grows text i value are few within is =
    let digit : IsInRange 48 57 (get_or text i 0) = digit_at text i (all_digits text are) within in
    let more = digits_value_more 10 text i within in
    let one = digit_value_digit (get_or text i 0) digit in
    let below = digits_value-take-le 10 text (i + 1) (omega arith) in
    let room = pow-le-pow_right {n = 10} (omega arith) few in
    let top = value_small text are in
    let sum : value * 10 + (get_or text i 0 - 48) ≡ digits_value 10 (take (i + 1) text) = grind arith in
    record { digit = digit.0; more = sum; small = omega arith }

pub whole_value : (text : List ℕ) (i value : ℕ) → list_all is_ascii_digit text ≡ true → length text ≤ i → value ≡ digits_value 10 (take i text) → value < 10 ^ length text
whole_value text i value are past is = rw (is, take_all i text past) (value_small text are)

-- digits behind others
digits_value_after-append : (n : ℕ) (xs ys : List ℕ) → digits_value_after 10 n (xs ++ ys) ≡ digits_value_after 10 (digits_value_after 10 n xs) ys
digits_value_after-append n [] ys = refl
digits_value_after-append n (x ∷ xs) ys = digits_value_after-append (n * 10 + digit_value x) xs ys

digits_value_after-sum : (n : ℕ) (xs : List ℕ) → digits_value_after 10 n xs ≡ n * 10 ^ length xs + digits_value 10 xs
digits_value_after-sum n [] = omega arith
digits_value_after-sum n (x ∷ xs) =
    let here = digits_value_after-sum (n * 10 + digit_value x) xs in
    let first = digits_value_after-sum (0 + digit_value x) xs in
    let power = pow-suc 10 (length xs) in
    rw power (omega arith)

pub digits_value-append : (xs ys : List ℕ) → digits_value 10 (xs ++ ys) ≡ digits_value 10 xs * 10 ^ length ys + digits_value 10 ys
digits_value-append xs ys = digits_value_after-append 0 xs ys ∙ digits_value_after-sum (digits_value 10 xs) ys
