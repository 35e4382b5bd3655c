-- The parts of a decimal number, and the size that they write.
use Rattle.std.proofs.Common.{◌≡◌, ℕ, ◌+◌, ◌-◌, ◌*◌, ◌^◌, ◌<◌, ◌≤◌, Bool, true, false, ◌&&◌, nat_lt, suc, Some, None, nat_le, if◌then◌else◌, refl, subst}
use Rattle.std.proofs.Common.{List, ◌++◌, length, length-drop, take, take_all, drop, sym, ◌∙◌, ap, inl, inr, arith}
use Rattle.std.proofs.lemmas.Bool.Decides.{nat_tests, leb_tells}
use Rattle.std.proofs.lemmas.Nat.{pow-add}
use Rattle.std.proofs.Math.Nat.{pow-le-pow_right, mul-le-mul_right}
use Rattle.std.proofs.Math.Bool.{and-true}
use Rattle.std.specs.List.{list_all, position, position_or_len}
use Rattle.std.specs.Char.{is_ascii_digit}
use Rattle.std.specs.Str.Parse.{digits_value}
use Rattle.std.proofs.lemmas.Bool.{and_parts, leb-true}
use Rattle.std.proofs.lemmas.Option.{none-some, same_Some}
use Rattle.value_text.specs.believed.Numbers.{count_of, is_digits, is_point, without_sign, is_decimal}
use Rattle.value_text.proofs.DigitLemmas.{value_small, digits_value-append}
use Rattle.value_text.proofs.ListLemmas.{list_any-position}

-- a place that `position` gives, and no place
place : (p : ℕ → Bool) (xs : List ℕ) (at : ℕ) → Some at ≡ position p xs → (position_or_len p xs ≡ at) × (at < length xs)
place p xs at found =
    elim (leb_tells (suc (position_or_len p xs)) (length xs)) [
      | inl h ↦ let e = rw h.0 at found in let same : position_or_len p xs ≡ at = cc in (same, omega arith)
      | inr h ↦ let e = rw h.0 at found in cc
    ]

no_place : (p : ℕ → Bool) (xs : List ℕ) → None ≡ position p xs → length xs ≤ position_or_len p xs
no_place p xs none =
    elim (leb_tells (suc (position_or_len p xs)) (length xs)) [
      | inl h ↦ let e = rw h.0 at none in cc
      | inr h ↦ omega arith
    ]

-- what the place of the point tells of the text
pub decimal_with_point : (text unsigned : List ℕ) (at : ℕ) → unsigned ≡ without_sign text → Some at ≡ position is_point unsigned
    → is_decimal text ≡ (is_digits (take at unsigned) && is_digits (take (length unsigned - (at + 1)) (drop (at + 1) unsigned)))
decimal_with_point text unsigned at is found =
    let here = place is_point unsigned at found in
    let any = list_any-position is_point unsigned in
    let test : nat_lt (position_or_len is_point unsigned) (length unsigned) ≡ true = grind (arith, nat_tests) in
    let whole : take (length unsigned - (at + 1)) (drop (at + 1) unsigned) ≡ drop (at + 1) unsigned = take_all _ _ (omega (arith, length-drop (at + 1) unsigned)) in
    rw (whole, ← is, any, test, here.0)

pub decimal_without_point : (text unsigned : List ℕ) → unsigned ≡ without_sign text → None ≡ position is_point unsigned → is_decimal text ≡ is_digits unsigned
decimal_without_point text unsigned is none =
    let past = no_place is_point unsigned none in
    let any = list_any-position is_point unsigned in
    let test : nat_lt (position_or_len is_point unsigned) (length unsigned) ≡ false = grind (arith, nat_tests) in
    rw (← is, any, test, take_all (position_or_len is_point unsigned) unsigned past, and-true)

-- the size that at most 28 digits before the point and 9 behind it write
pub record Scales (whole decimals : List ℕ) : Type 0 where
  pub whole_fits : digits_value 10 whole * 1000000000 < 2 ^ 128
  pub fits : digits_value 10 whole * 1000000000 + digits_value 10 decimals * 10 ^ (9 - length decimals) < 2 ^ 127
  pub size : digits_value 10 whole * 1000000000 + digits_value 10 decimals * 10 ^ (9 - length decimals) ≡ digits_value 10 (whole ++ decimals) * 10 ^ (9 - length decimals)

pub scales : (whole decimals : List ℕ) → list_all is_ascii_digit whole ≡ true → length whole ≤ 28
    → list_all is_ascii_digit decimals ≡ true → length decimals ≤ 9 → Scales whole decimals
scales whole decimals are few are_too few_too =
    let top = value_small whole are in
    let room = pow-le-pow_right {n = 10} (omega arith) few in
    let below = value_small decimals are_too in
    let whole_power : length decimals + (9 - length decimals) ≡ 9 = omega arith in
    let power : 10 ^ length decimals * 10 ^ (9 - length decimals) ≡ 1000000000 =
    sym (pow-add 10 (length decimals) (9 - length decimals)) ∙ ap (λ n. 10 ^ n) whole_power in
    let product : digits_value 10 decimals * 10 ^ (9 - length decimals) ≤ 1000000000 = grind (arith, mul-le-mul_right (10 ^ (9 - length decimals)) below) in
    record {
      whole_fits = omega arith;
      fits = omega arith;
      size = rw (digits_value-append whole decimals) (omega (arith, ap (λ n. digits_value 10 whole * n) power));
    }

-- a count lies in its range
pub count_within : (text : List ℕ) (least most n : ℕ) → count_of text least most ≡ Some n → (least ≤ n) × (n ≤ most)
count_within text least most n h = decide (is_digits text && nat_le (length text) 20 && nat_le least value && nat_le value most) refl
  where
    value : ℕ
    value = digits_value 10 text

    decide : (b : Bool) → (is_digits text && nat_le (length text) 20 && nat_le least value && nat_le value most) ≡ b → (least ≤ n) × (n ≤ most)
    decide true t =
        let last = and_parts (is_digits text && nat_le (length text) 20 && nat_le least value) (nat_le value most) t in
        let first = and_parts (is_digits text && nat_le (length text) 20) (nat_le least value) last.0 in
        let same : value ≡ n = same_Some value n (sym (ap (λ b. if b then Some value else None) t) ∙ h) in
        (subst (λ k. least ≤ k) same (leb-true least value first.1), subst (λ k. k ≤ most) same (leb-true value most last.1))
    decide false t = absurd (none-some n (sym (ap (λ b. if b then Some value else None) t) ∙ h))
