-- Runs of bytes, and the digits of whole numbers and of decimals.
use Rattle.std.proofs.Common.{◌≡◌, ℕ, zero, suc, ◌+◌, ◌-◌, ◌*◌, ◌/◌, ◌%◌, ◌^◌, ◌<◌, ◌≤◌, Bool, true}
use Rattle.std.proofs.Common.{false, List, [], ◌∷◌, ◌++◌, length, refl, ap, sym, subst, arith, ◌∙◌}
use Rattle.std.specs.Char.{digit_value, is_ascii_digit}
use Rattle.std.specs.Int.{IsInRange}
use Rattle.std.specs.List.{list_all, prefix_len}
use Rattle.std.specs.Prelude.{decimal, ◌==◌}
use Rattle.std.specs.Str.Parse.{AllDigits, digits_value}
use Rattle.std.proofs.Math.Nat.{pow-le-pow_right, pow-suc}
use Rattle.std.proofs.lemmas.Bool.{and_parts, ne_eqb}
use Rattle.std.proofs.lemmas.Bool.Decides.{nat_tests}
use Rattle.std.proofs.lemmas.Fmt.{decimal_is_IsNumeral_wide}
use Rattle.std.proofs.lemmas.Nat.{pow-add}
use Rattle.std.proofs.lemmas.Str.{digit_value_digit}
use Rattle.std.proofs.lemmas.Str.Parse.{digit_at}
use Rattle.value_text.proofs.DigitLemmas.{digits_value-append}
use Rattle.constraint_ast.specs.believed.RuleText.{decimals}

-- ---- runs

-- what ends a run
abbrev pub Stops : (ℕ → Bool) → List ℕ → Type 0
Stops p [] = Unit {0}
Stops p (b ∷ text) = p b ≡ false

pub run_prefix : (p : ℕ → Bool) (xs ys : List ℕ) → list_all p xs ≡ true → Stops p ys → prefix_len p (xs ++ ys) ≡ length xs
run_prefix p [] [] pass stops = refl
run_prefix p [] (y ∷ ys) pass stops = rw stops refl
run_prefix p (x ∷ xs) ys pass stops =
    let parts = and_parts (p x) (list_all p xs) pass in
    rw (parts.0, run_prefix p xs ys parts.1 stops) (omega arith)

-- ---- digits

-- digits that write a number
pub record Write (n : ℕ) (text : List ℕ) : Type 0 where
  pub digits : list_all is_ascii_digit text ≡ true
  pub value : digits_value 10 text ≡ n

is_digit : (b : ℕ) → 48 ≤ b → b ≤ 57 → is_ascii_digit b ≡ true
is_digit b low high = grind (arith, nat_tests)

all_ascii : (text : List ℕ) → AllDigits 10 text → list_all is_ascii_digit text ≡ true
all_ascii [] are = refl
all_ascii (b ∷ text) are =
    let first : IsInRange 48 57 b = digit_at (b ∷ text) 0 are (omega arith) in
    rw (is_digit b first.0 first.1, all_ascii text are.1) refl

pub whole_writes : (n : ℕ) → n < 10 ^ 64 → Write n (decimal n)
whole_writes n small = let is = decimal_is_IsNumeral_wide n small in record { digits = all_ascii (decimal n) is.0.1; value = is.1 }

digit_is : (d : ℕ) → d < 10 → digit_value (48 + d) ≡ d
digit_is d small = let range : IsInRange 48 57 (48 + d) = (omega arith, omega arith) in omega (arith, digit_value_digit (48 + d) range)

add_none : (x : ℕ) → 0 + x ≡ x
add_none x = omega arith

-- decimals
pub record Decimals (k left : ℕ) (text : List ℕ) : Type 0 where
  pub digits : list_all is_ascii_digit text ≡ true
  pub few : length text ≤ k
  pub value : digits_value 10 text * 10 ^ (k - length text) ≡ left

more_decimals : (k left : ℕ) (text : List ℕ) → left < 10 ^ suc k → Decimals k (left % 10 ^ k) text → Decimals (suc k) left ((48 + left / 10 ^ k) ∷ text)
more_decimals k left text below rest =
    let unit : ℕ = 10 ^ k in
    let power : 10 ^ suc k ≡ unit * 10 = pow-suc 10 k in
    let none : 0 ≤ k = omega arith in
    let low : 10 ^ 0 ≤ unit = pow-le-pow_right {n = 10} (omega arith) none in
    let digit : left / unit < 10 = grind arith in
    let first : digits_value 10 ((48 + left / unit) ∷ []) ≡ left / unit = add_none (digit_value (48 + left / unit)) ∙ digit_is (left / unit) digit in
    let sum : digits_value 10 ((48 + left / unit) ∷ text) ≡ left / unit * 10 ^ length text + digits_value 10 text =
    digits_value-append ((48 + left / unit) ∷ []) text ∙ ap (λ n. n * 10 ^ length text + digits_value 10 text) first in
    let size : length text + (k - length text) ≡ k = omega (arith, rest.few) in
    let whole : 10 ^ length text * 10 ^ (k - length text) ≡ unit = sym (pow-add 10 (length text) (k - length text)) ∙ ap (λ n. 10 ^ n) size in
    let places : suc k - length ((48 + left / unit) ∷ text) ≡ k - length text = omega arith in
    let parts : left / unit * unit + left % unit ≡ left = omega arith in
    record {
      digits = rw (is_digit (48 + left / unit) (omega arith) (omega arith)) rest.digits;
      few = omega (arith, rest.few);
      value = ap (λ n. digits_value 10 ((48 + left / unit) ∷ text) * 10 ^ n) places
          ∙ (ap (λ n. n * 10 ^ (k - length text)) sum ∙ (omega (arith, rest.value, ap (λ n. left / unit * n) whole) ∙ parts));
    }

pub decimals_are : (k left : ℕ) → left < 10 ^ k → Decimals k left (decimals k left)
decimals_are zero left below = record { digits = refl; few = omega arith; value = omega arith }
decimals_are (suc k) zero below = record { digits = refl; few = omega arith; value = omega arith }
decimals_are (suc k) (suc left) below =
    let none : 0 ≤ k = omega arith in
    let low : 10 ^ 0 ≤ 10 ^ k = pow-le-pow_right {n = 10} (omega arith) none in
    let some : (suc left == 0) ≡ false = ne_eqb (suc left) 0 (λ e. omega arith) in
    let is : decimals (suc k) (suc left) ≡ (48 + suc left / 10 ^ k) ∷ decimals k (suc left % 10 ^ k) = rw some refl in
    subst (λ text. Decimals (suc k) (suc left) text) (sym is) (more_decimals k (suc left) (decimals k (suc left % 10 ^ k)) below (decimals_are k (suc left % 10 ^ k) (omega arith)))
