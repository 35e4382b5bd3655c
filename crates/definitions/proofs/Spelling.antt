-- Numbers in decimal, and texts that a byte parts.
use Rattle.std.proofs.Common.{◌≡◌, ℕ, ◌+◌, ◌^◌, ◌<◌, Bool, true, false, ◌||◌, ◌&&◌, not, cond, List, [], ◌∷◌, ◌++◌, length, get_or}
use Rattle.std.proofs.Common.{take, drop, Some, None, inl, inr, ◌∙◌, sym, ap, refl, arith, rules, All, lt-ltb, ne_eqb, eq-eqb}
use Rattle.std.specs.Prelude.{◌==◌, nat_lt, slice_index, decimal}
use Rattle.std.specs.List.{list_all, position_or_len, before_first, after_first}
use Rattle.std.specs.Char.{is_ascii_digit}
use Rattle.std.specs.Int.{IsInRange}
use Rattle.std.specs.Str.Parse.{digits_value}
use Rattle.std.proofs.lemmas.Bool.{false≢true, cases_eq, cases_lt, and_parts, and_from, or_cases, or_left, or_right, not-true, not_from_false, eqb-true, ltb-true}
use Rattle.std.proofs.lemmas.Fmt.{digits_decimal, digits_value-decimal, first_decimal, decimal_nonempty, decimal_digit, decimal-digits_value}
use Rattle.std.proofs.lemmas.List.Elements.{All-head, All-tail, All-from_get_or}
use Rattle.std.proofs.lemmas.List.{drop_all}
use Rattle.std.proofs.lemmas.List.Sums.{split_at_first, passes_at_first}
use Rattle.std.proofs.Math.Seq.{take-append_seam, drop-append-add}
use Rattle.std.proofs.lemmas.Str.Parse.{IsDigitsTest, IsNumeralModel, numerals_by_value, not_in_digits}
use Rattle.value_text.specs.believed.Numbers.{is_digits}
use Rattle.definitions.specs.believed.ProofText.{number_where}

-- texts of digits, and their numbers
tells_digits : IsDigitsTest (λ text. list_all is_ascii_digit text ≡ true)
tells_digits = search rules

numerals : IsNumeralModel (λ text. list_all is_ascii_digit text ≡ true) (digits_value 10)
numerals = numerals_by_value (λ text. list_all is_ascii_digit text ≡ true) tells_digits

-- no zero stands in front
unled : (n : ℕ) → n < 2 ^ 64 → ((length (decimal n) == 1) || not (slice_index (decimal n) 0 == 48)) ≡ true
unled n small =
    elim (cases_eq n 0) [
      | inl none ↦
          let one : length (decimal n) ≡ 1 = ap length (decimal_digit n (omega arith)) in
          or_left (length (decimal n) == 1) (not (slice_index (decimal n) 0 == 48)) (eq-eqb (length (decimal n)) 1 one)
      | inr some ↦
          let first = first_decimal n (omega (arith, some)) small in
          or_right (length (decimal n) == 1) (not (slice_index (decimal n) 0 == 48))
          (not_from_false (slice_index (decimal n) 0 == 48) (ne_eqb (slice_index (decimal n) 0) 48 (λ e. omega (arith, first, e))))
    ]

-- a number that passes is read back
pub number_reads : (test : ℕ → Bool) (n : ℕ) → n < 2 ^ 64 → test n ≡ true → number_where test (decimal n) ≡ Some n
number_reads test n small passes =
    let value : digits_value 10 (decimal n) ≡ n = digits_value-decimal numerals n small in
    let digits : is_digits (decimal n) ≡ true =
    and_from (nat_lt 0 (length (decimal n))) (list_all is_ascii_digit (decimal n)) (lt-ltb 0 (length (decimal n)) (decimal_nonempty n small))
    (digits_decimal numerals n small) in
    let front = and_from (is_digits (decimal n)) ((length (decimal n) == 1) || not (slice_index (decimal n) 0 == 48)) digits (unled n small) in
    let whole = and_from (is_digits (decimal n) && ((length (decimal n) == 1) || not (slice_index (decimal n) 0 == 48)))
    (test (digits_value 10 (decimal n))) front (ap test value ∙ passes) in
    ap (λ b. cond b (Some (digits_value 10 (decimal n))) None) whole ∙ ap Some value

-- and what is read is the number's text
pub record Spells (test : ℕ → Bool) (text : List ℕ) (n : ℕ) : Type 0 where
  pub text_is : text ≡ decimal n
  pub passes : test n ≡ true

pub number_spells : (test : ℕ → Bool) (text : List ℕ) (n : ℕ) → ((n : ℕ) → test n ≡ true → n < 2 ^ 64) → number_where test text ≡ Some n → Spells test text n
number_spells test text n small read = at (is_digits text && ((length text == 1) || not (slice_index text 0 == 48)) && test (digits_value 10 text)) refl read
  where
    at : (b : Bool) → (is_digits text && ((length text == 1) || not (slice_index text 0 == 48)) && test (digits_value 10 text)) ≡ b
        → cond b (Some (digits_value 10 text)) None ≡ Some n → Spells test text n
    at false is given = cc
    at true is given =
        let value : digits_value 10 text ≡ n = cc in
        let whole = and_parts (is_digits text && ((length text == 1) || not (slice_index text 0 == 48))) (test (digits_value 10 text)) is in
        let front = and_parts (is_digits text) ((length text == 1) || not (slice_index text 0 == 48)) whole.0 in
        let digits = and_parts (nat_lt 0 (length text)) (list_all is_ascii_digit text) front.0 in
        let some = ltb-true 0 (length text) digits.0 in
        let spelled : decimal (digits_value 10 text) ≡ text = decimal-digits_value numerals text digits.1 some (alone front.1)
        (small (digits_value 10 text) whole.1) in
        record { text_is = sym spelled ∙ ap decimal value; passes = ap test (sym value) ∙ whole.1 }
      where
        alone : ((length text == 1) || not (slice_index text 0 == 48)) ≡ true → get_or text 0 0 ≡ 48 → length text ≡ 1
        alone front first =
            elim (or_cases (length text == 1) (not (slice_index text 0 == 48)) front) [
              | inl one ↦ eqb-true (length text) 1 one
              | inr other ↦ absurd (false≢true (sym (not-true (slice_index text 0 == 48) other) ∙ eq-eqb (slice_index text 0) 48 first))
            ]

-- a byte that is no digit isn't in the text of a number
abbrev pub Lacks : ℕ → List ℕ → Type 0
Lacks c text = All (λ byte. (byte == c) ≡ false) text

pub number_lacks : (c n : ℕ) → n < 2 ^ 64 → (IsInRange 48 57 c → ⊥) → Lacks c (decimal n)
number_lacks c n small other =
    All-from_get_or (λ byte. (byte == c) ≡ false) (decimal n) 0 (λ i within.
    ne_eqb (get_or (decimal n) i 0) c (not_in_digits numerals (decimal n) c (digits_decimal numerals n small) other i within))

-- what stands before and after the first element that passes
pub record PartsInto {X : Type 0} (test : X → Bool) (whole before after : List X) : Type 0 where
  pub before_is : before_first test whole ≡ before
  pub after_is : after_first test whole ≡ after

pub parts_at : {X : Type 0} (test : X → Bool) (before : List X) (x : X) (after : List X) → All (λ y. test y ≡ false) before → test x ≡ true
    → PartsInto test (before ++ x ∷ after) before after
parts_at {X} test before x after fail passes =
    let first : position_or_len test (before ++ x ∷ after) ≡ length before = place before fail in
    record {
      before_is = ap (λ i. take i (before ++ x ∷ after)) first ∙ take-append_seam before (x ∷ after);
      after_is = ap (λ i. drop (i + 1) (before ++ x ∷ after)) first ∙ drop-append-add before (x ∷ after) 1;
    }
  where
    place : (front : List X) → All (λ y. test y ≡ false) front → position_or_len test (front ++ x ∷ after) ≡ length front
    place [] fail = ap (λ b. cond (not b) (1 + position_or_len test after) 0) passes
    place (y ∷ front) fail =
        let later = place front (All-tail (λ y. test y ≡ false) y front fail) in
        ap (λ b. cond (not b) (1 + position_or_len test (front ++ x ∷ after)) 0) (All-head (λ y. test y ≡ false) y front fail) ∙ omega (arith, later)

-- where something stands after it, the list is these parts
pub record ComesFrom {X : Type 0} (test : X → Bool) (whole : List X) : Type 0 where
  pub parting : X
  pub passes : test parting ≡ true
  pub whole_is : whole ≡ before_first test whole ++ parting ∷ after_first test whole

pub comes_from : {X : Type 0} (test : X → Bool) (whole : List X) (d : X) → 0 < length (after_first test whole) → ComesFrom test whole
comes_from test whole d some =
    elim (cases_lt (position_or_len test whole) (length whole)) [
      | inl within ↦ record {
        parting = get_or whole (position_or_len test whole) d;
        passes = passes_at_first test whole d within;
        whole_is = split_at_first test whole d within;
      }
      | inr past ↦ absurd (omega (arith, ap length (drop_all (position_or_len test whole + 1) whole (omega (arith, past)))))
    ]
