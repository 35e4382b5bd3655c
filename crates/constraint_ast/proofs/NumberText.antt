-- The text of a number is read as that number.
use Rattle.std.proofs.Common.{◌≡◌, ℕ, zero, suc, ◌+◌, ◌-◌, ◌*◌, ◌/◌, ◌%◌, ◌^◌, ◌<◌, ◌≤◌, ℤ, pos, negsuc, neg_ℤ, Bool, true}
use Rattle.std.proofs.Common.{false, not, ◌||◌, List, [], ◌∷◌, ◌++◌, length, take, drop, refl, ap, sym, subst, arith, ◌∙◌}
use Rattle.std.specs.Char.{is_ascii_digit}
use Rattle.std.specs.List.{after_first, before_first, list_all, list_any, position_or_len}
use Rattle.std.specs.Prelude.{decimal, nat_lt, if◌then◌else◌, ◌==◌}
use Rattle.std.specs.Str.Parse.{digits_value}
use Rattle.std.proofs.Math.Bool.{or-true}
use Rattle.std.proofs.Math.Nat.{mul-le-mul_right, pow-le-pow_right}
use Rattle.std.proofs.Math.Seq.{drop-append-add, take-append_seam}
use Rattle.std.proofs.lemmas.Bool.{and_parts, le-ltb, ne_eqb}
use Rattle.std.proofs.lemmas.Bool.Decides.{nat_tests}
use Rattle.std.proofs.lemmas.Fmt.{decimal_is_IsNumeral_wide, length-decimal-le_wide}
use Rattle.std.proofs.lemmas.List.Folds.{list_all-append, list_any-append}
use Rattle.std.proofs.lemmas.Nat.{pow-add}
use Rattle.model_lex.specs.believed.Tokens.{begins_number, is_number_byte}
use Rattle.value_text.specs.believed.Numbers.{decimal_digits, has_point, is_decimal, is_digits, is_minus, is_point, number_of, scaled_size, whole_digits, without_sign}
use Rattle.value_text.specs.declared.fixed.FixedAnswer.TheVariants.{Number, NotNumber, TooWide}
use Rattle.value_text.proofs.DigitLemmas.{digits_value-append, value_small}
use Rattle.constraint_ast.specs.believed.RuleText.{decimals, fraction, number_text, size_text}
use Rattle.constraint_ast.proofs.Digits.{Decimals, Write, decimals_are, run_prefix, whole_writes}

-- ---- the text of a size

-- digits, and behind a point other digits if any
abbrev pub point_and : List ℕ → List ℕ
point_and [] = []
point_and (b ∷ text) = 46 ∷ b ∷ text

-- what a text without a sign is made of
record Parts (text whole decs : List ℕ) : Type 0 where
  before : before_first is_point text ≡ whole
  point : list_any is_point text ≡ nat_lt 0 (length decs)
  behind : after_first is_point text ≡ decs

no_point : (text : List ℕ) → list_all is_ascii_digit text ≡ true → list_all (λ b. not (is_point b)) text ≡ true
no_point [] digits = refl
no_point (b ∷ text) digits =
    let parts = and_parts (is_ascii_digit b) (list_all is_ascii_digit text) digits in
    let other : not (is_point b) ≡ true = grind (arith, nat_tests) in
    rw (other, no_point text parts.1) refl

none_of_them : (text : List ℕ) → list_all (λ b. not (is_point b)) text ≡ true → list_any is_point text ≡ false
none_of_them [] none = refl
none_of_them (b ∷ text) none =
    let parts = and_parts (not (is_point b)) (list_all (λ b. not (is_point b)) text) none in
    let other : is_point b ≡ false = grind (arith, nat_tests) in
    rw (other, none_of_them text parts.1) refl

parts_of : (whole decs : List ℕ) → list_all is_ascii_digit whole ≡ true → Parts (whole ++ point_and decs) whole decs
parts_of whole [] digits =
    let none = no_point whole digits in
    let len : position_or_len is_point (whole ++ []) ≡ length whole = run_prefix (λ b. not (is_point b)) whole [] none tt in
    record {
      before = ap (λ n. take n (whole ++ [])) len ∙ take-append_seam whole [];
      point = list_any-append is_point whole [] ∙ (ap (λ b. b || false) (none_of_them whole none));
      behind = ap (λ n. drop (n + 1) (whole ++ [])) len ∙ drop-append-add whole [] 1;
    }
parts_of whole (b ∷ decs) digits =
    let none = no_point whole digits in
    let tail : List ℕ = 46 ∷ b ∷ decs in
    let len : position_or_len is_point (whole ++ tail) ≡ length whole = run_prefix (λ b. not (is_point b)) whole tail none refl in
    let some : nat_lt 0 (length (b ∷ decs)) ≡ true = grind (arith, nat_tests) in
    record {
      before = ap (λ n. take n (whole ++ tail)) len ∙ take-append_seam whole tail;
      point = list_any-append is_point whole tail ∙ (ap (λ any. any || true) (none_of_them whole none) ∙ sym some);
      behind = ap (λ n. drop (n + 1) (whole ++ tail)) len ∙ drop-append-add whole tail 1;
    }

-- a text that is made so is read as a number
abbrev signed : Bool → ℕ → ℤ
signed minus size = if minus then neg_ℤ (pos size) else pos size

some_digits : (text : List ℕ) → 0 < length text → list_all is_ascii_digit text ≡ true → is_digits text ≡ true
some_digits text some digits = grind (arith, nat_tests)

reads_as : (text whole decs : List ℕ) → Parts (without_sign text) whole decs → 0 < length whole → list_all is_ascii_digit whole ≡ true → length whole ≤ 28
    → list_all is_ascii_digit decs ≡ true → length decs ≤ 9 → number_of text ≡ Number (signed (is_minus text) (digits_value 10 (whole ++ decs) * 10 ^ (9 - length decs)))
reads_as text whole decs parts some digits few decs_digits decs_few =
    let fits : (not (nat_lt 0 (length decs)) || is_digits decs) ≡ true = by decs decs_digits in
    let form : is_decimal text ≡ true = rw (parts.before, parts.point, parts.behind, some_digits whole some digits, fits) refl in
    let size : scaled_size text ≡ digits_value 10 (whole ++ decs) * 10 ^ (9 - length decs) = rw (parts.before, parts.behind) refl in
    let narrow : (nat_lt 28 (length (whole_digits text)) || nat_lt 9 (length (decimal_digits text))) ≡ false =
    rw (parts.before, parts.behind, le-ltb 28 (length whole) few, le-ltb 9 (length decs) decs_few) refl in
    rw (form, narrow) (ap (λ n. Number (signed (is_minus text) n)) size)
  where
    by : (decs : List ℕ) → list_all is_ascii_digit decs ≡ true → (not (nat_lt 0 (length decs)) || is_digits decs) ≡ true
    by [] digits = refl
    by (b ∷ decs) digits = rw (some_digits (b ∷ decs) (omega arith) digits) (or-true (not (nat_lt 0 (length (b ∷ decs)))))

fraction_is : (left : ℕ) → fraction left ≡ point_and (decimals 9 left)
fraction_is zero = refl
fraction_is (suc left) = let some : (suc left == 0) ≡ false = ne_eqb (suc left) 0 (λ e. omega arith) in rw some refl

-- digits first, so no sign
record NoSign (text : List ℕ) : Type 0 where
  same : without_sign text ≡ text
  plus : is_minus text ≡ false

no_sign : (text tail : List ℕ) → 0 < length text → list_all is_ascii_digit text ≡ true → NoSign (text ++ tail)
no_sign [] tail some digits = absurd (omega arith)
no_sign (b ∷ text) tail some digits =
    let first = (and_parts (is_ascii_digit b) (list_all is_ascii_digit text) digits).0 in
    let mark : ((b == 43) || (b == 45)) ≡ false = grind (arith, nat_tests) in
    let minus : (b == 45) ≡ false = grind (arith, nat_tests) in
    record { same = rw mark refl; plus = rw minus refl }

-- the size that its text writes
module _ (size : ℕ) (small : size < 10 ^ 37) where
  whole : ℕ
  whole = size / 10 ^ 9

  left : ℕ
  left = size % 10 ^ 9

  whole_small : whole < 10 ^ 28
  unfolding whole
  whole_small = omega arith

  whole_text : Write whole (decimal whole)
  whole_text = whole_writes whole (omega (arith, whole_small))

  left_text : Decimals 9 left (decimals 9 left)
  unfolding left
  left_text = decimals_are 9 left (omega arith)

  some : 0 < length (decimal whole)
  some = (decimal_is_IsNumeral_wide whole (omega (arith, whole_small))).0.0

  few : length (decimal whole) ≤ 28
  few = length-decimal-le_wide 28 whole (omega arith) whole_small (omega (arith, whole_small))

  is_text : size_text size ≡ decimal whole ++ point_and (decimals 9 left)
  unfolding whole left
  is_text = ap (λ tail. decimal (size / 10 ^ 9) ++ tail) (fraction_is (size % 10 ^ 9))

  writes_size : digits_value 10 (decimal whole ++ decimals 9 left) * 10 ^ (9 - length (decimals 9 left)) ≡ size
  unfolding whole left
  writes_size =
      let decs : List ℕ = decimals 9 left in
      let places : length decs + (9 - length decs) ≡ 9 = omega (arith, left_text.few) in
      let power : 10 ^ length decs * 10 ^ (9 - length decs) ≡ 10 ^ 9 = sym (pow-add 10 (length decs) (9 - length decs)) ∙ ap (λ n. 10 ^ n) places in
      let sum : digits_value 10 (decimal whole ++ decs) ≡ whole * 10 ^ length decs + digits_value 10 decs =
      digits_value-append (decimal whole) decs ∙ ap (λ n. n * 10 ^ length decs + digits_value 10 decs) whole_text.value in
      let parts : size / 10 ^ 9 * 10 ^ 9 + size % 10 ^ 9 ≡ size = omega arith in
      ap (λ n. n * 10 ^ (9 - length decs)) sum ∙ (omega (arith, left_text.value, ap (λ n. whole * n) power) ∙ parts)

  reads_whole : (text : List ℕ) → without_sign text ≡ size_text size → number_of text ≡ Number (signed (is_minus text) size)
  reads_whole text is =
      let parts : Parts (without_sign text) (decimal whole) (decimals 9 left) =
      subst (λ text. Parts text (decimal whole) (decimals 9 left)) (sym (is ∙ is_text)) (parts_of (decimal whole) (decimals 9 left) whole_text.digits) in
      reads_as text (decimal whole) (decimals 9 left) parts some whole_text.digits few left_text.digits left_text.few ∙ ap (λ n. Number (signed (is_minus text) n)) writes_size

  pub unsigned_again : number_of (size_text size) ≡ Number (pos size)
  unsigned_again =
      let none : NoSign (size_text size) = subst NoSign (sym is_text) (no_sign (decimal whole) (point_and (decimals 9 left)) some whole_text.digits) in
      reads_whole (size_text size) none.same ∙ ap (λ minus. Number (signed minus size)) none.plus

  pub signed_again : number_of (45 ∷ size_text size) ≡ Number (neg_ℤ (pos size))
  signed_again = reads_whole (45 ∷ size_text size) refl

-- ---- the numbers that are read

abbrev pub IsSmall : ℤ → Type 0
IsSmall (pos size) = size < 10 ^ 37
IsSmall (negsuc size) = suc size < 10 ^ 37

small_signed : (minus : Bool) (size : ℕ) → size < 10 ^ 37 → IsSmall (signed minus size)
small_signed false size small = small
small_signed true zero small = small
small_signed true (suc size) small = small

nothing_behind : (text : List ℕ) → list_any is_point text ≡ false → after_first is_point text ≡ []
nothing_behind [] none = refl
nothing_behind (b ∷ text) none = by (is_point b) refl (nothing_behind text)
  where
    by : (point : Bool) → is_point b ≡ point → (list_any is_point text ≡ false → after_first is_point text ≡ []) → after_first is_point (b ∷ text) ≡ []
    by true e rest = absurd (let found : list_any is_point (b ∷ text) ≡ true = rw e refl in cc)
    by false e rest =
        let later : list_any is_point text ≡ false = rw e at none in
        let place : 1 + position_or_len is_point text + 1 ≡ suc (position_or_len is_point text + 1) = omega arith in
        let here : position_or_len is_point (b ∷ text) ≡ 1 + position_or_len is_point text = rw e refl in
        ap (λ n. drop (n + 1) (b ∷ text)) here ∙ (ap (λ n. drop n (b ∷ text)) place ∙ rest later)

sizes : (whole decs : List ℕ) → list_all is_ascii_digit whole ≡ true → length whole ≤ 28 → list_all is_ascii_digit decs ≡ true → length decs ≤ 9
    → digits_value 10 (whole ++ decs) * 10 ^ (9 - length decs) < 10 ^ 37
sizes whole decs digits few decs_digits decs_few =
    let top = value_small whole digits in
    let below = value_small decs decs_digits in
    let room : 10 ^ length whole ≤ 10 ^ 28 = pow-le-pow_right {n = 10} (omega arith) few in
    let size : length decs + (9 - length decs) ≡ 9 = omega arith in
    let power : 10 ^ length decs * 10 ^ (9 - length decs) ≡ 10 ^ 9 = sym (pow-add 10 (length decs) (9 - length decs)) ∙ ap (λ n. 10 ^ n) size in
    let none : 0 ≤ 9 - length decs = omega arith in
    let low : 10 ^ 0 ≤ 10 ^ (9 - length decs) = pow-le-pow_right {n = 10} (omega arith) none in
    let more : digits_value 10 decs + 1 ≤ 10 ^ length decs = omega arith in
    let product : (digits_value 10 decs + 1) * 10 ^ (9 - length decs) ≤ 10 ^ length decs * 10 ^ (9 - length decs) = mul-le-mul_right (10 ^ (9 - length decs)) more in
    rw (digits_value-append whole decs) (omega (arith, ap (λ n. digits_value 10 whole * n) power))

module _ (text : List ℕ) (n : ℤ) where
  digits_behind : (is_digits (decimal_digits text) ≡ true → list_all is_ascii_digit (decimal_digits text) ≡ true) → (not (has_point text) || is_digits (decimal_digits text)) ≡ true
      → list_all is_ascii_digit (decimal_digits text) ≡ true
  digits_behind are form = by (has_point text) refl
    where
      by : (point : Bool) → has_point text ≡ point → list_all is_ascii_digit (decimal_digits text) ≡ true
      by true e = are (rw e at form)
      by false e = ap (list_all is_ascii_digit) (nothing_behind (without_sign text) e)

  digits_of : (digits : List ℕ) → is_digits digits ≡ true → list_all is_ascii_digit digits ≡ true
  digits_of digits are = (and_parts (nat_lt 0 (length digits)) (list_all is_ascii_digit digits) are).1

  few_of : (most k : ℕ) → nat_lt most k ≡ false → k ≤ most
  few_of most k narrow = grind (arith, nat_tests)

  small_text : (form : Bool) → is_decimal text ≡ form → (wide : Bool) → (nat_lt 28 (length (whole_digits text)) || nat_lt 9 (length (decimal_digits text))) ≡ wide
      → number_of text ≡ Number n → IsSmall n
  small_text false e wide w is = absurd (let here : number_of text ≡ NotNumber = rw e refl in cc)
  small_text true e true w is = absurd (let here : number_of text ≡ TooWide = rw (e, w) refl in cc)
  small_text true e false w is =
      let here : number_of text ≡ Number (signed (is_minus text) (scaled_size text)) = rw (e, w) refl in
      let same : signed (is_minus text) (scaled_size text) ≡ n = cc in
      let form = and_parts (is_digits (whole_digits text)) (not (has_point text) || is_digits (decimal_digits text)) e in
      let whole_few : nat_lt 28 (length (whole_digits text)) ≡ false = grind (arith, nat_tests) in
      let decs_few : nat_lt 9 (length (decimal_digits text)) ≡ false = grind (arith, nat_tests) in
      let small : scaled_size text < 10 ^ 37 =
      sizes (whole_digits text) (decimal_digits text) (digits_of (whole_digits text) form.0) (few_of 28 (length (whole_digits text)) whole_few)
      (digits_behind (digits_of (decimal_digits text)) form.1) (few_of 9 (length (decimal_digits text)) decs_few) in
      subst IsSmall same (small_signed (is_minus text) (scaled_size text) small)

pub small_again : (n : ℤ) → IsSmall n → number_of (number_text n) ≡ Number n
small_again (pos size) small = unsigned_again size small
small_again (negsuc size) small = signed_again (suc size) small

-- a number that was read is small
pub number_small : (text : List ℕ) (n : ℤ) → number_of text ≡ Number n → IsSmall n
number_small text n is = small_text text n (is_decimal text) refl (nat_lt 28 (length (whole_digits text)) || nat_lt 9 (length (decimal_digits text))) refl is

-- ---- the bytes of a number

-- a number begins so, and goes on with what numbers are made of
pub record NumberBytes (text : List ℕ) : Type 0 where
  pub first : ℕ
  pub more : List ℕ
  pub is : text ≡ first ∷ more
  pub begins : begins_number first ≡ true
  pub all : list_all is_number_byte text ≡ true

number_digits : (text : List ℕ) → list_all is_ascii_digit text ≡ true → list_all is_number_byte text ≡ true
number_digits [] digits = refl
number_digits (b ∷ text) digits =
    let parts = and_parts (is_ascii_digit b) (list_all is_ascii_digit text) digits in
    let here : is_number_byte b ≡ true = grind (arith, nat_tests) in
    rw (here, number_digits text parts.1) refl

fraction_bytes : (decs : List ℕ) → list_all is_ascii_digit decs ≡ true → list_all is_number_byte (point_and decs) ≡ true
fraction_bytes [] digits = refl
fraction_bytes (b ∷ decs) digits = number_digits (b ∷ decs) digits

first_digit : (text tail : List ℕ) → 0 < length text → list_all is_ascii_digit text ≡ true → list_all is_number_byte tail ≡ true → NumberBytes (text ++ tail)
first_digit [] tail some digits all = absurd (omega arith)
first_digit (b ∷ text) tail some digits all =
    let parts = and_parts (is_ascii_digit b) (list_all is_ascii_digit text) digits in
    let here : begins_number b ≡ true = grind (arith, nat_tests) in
    record { first = b; more = text ++ tail; is = refl; begins = here; all = rw (list_all-append is_number_byte (b ∷ text) tail, number_digits (b ∷ text) digits, all) refl }

size_bytes : (size : ℕ) → size < 10 ^ 37 → NumberBytes (size_text size)
size_bytes size small =
    let digits = (whole_text size small).digits in
    subst NumberBytes (sym (is_text size small)) (first_digit (decimal (whole size small)) (point_and (decimals 9 (left size small)))
    (some size small) digits (fraction_bytes (decimals 9 (left size small)) (left_text size small).digits))

pub number_bytes : (n : ℤ) → IsSmall n → NumberBytes (number_text n)
number_bytes (pos size) small = size_bytes size small
number_bytes (negsuc size) small = record { first = 45; more = size_text (suc size); is = refl; begins = refl; all = (size_bytes (suc size) small).all }
