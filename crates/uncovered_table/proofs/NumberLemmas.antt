-- The tuples of a set of two parameters as numbers.
use Rattle.std.proofs.Common.{inl, inr, ◌≡◌, ℕ, ◌+◌, ◌*◌, ◌<◌, ◌≤◌, ◌⊎◌, true, false, ◌||◌, List, [], ◌∷◌, Option, Some, None, length, ◌∙◌, refl, sym, ap, arith}
use Rattle.std.specs.Prelude.{◌==◌, option_map}
use Rattle.std.proofs.lemmas.Bool.{cases_eq, cases_lt, eq-eqb, false≢true}
use Rattle.std.proofs.lemmas.Bool.Decides.{nat_tests}
use Rattle.std.proofs.Math.Bool.{or-true, or_comm}
use Rattle.cov_model.specs.declared.slice.Slice.{Slice}
use Rattle.cov_model.specs.believed.Sound.{ModelView}
use Rattle.definitions.specs.believed.Demand.{demanded_sets, is_among}
use Rattle.tuple_index.specs.Kept.{IsKept}
use Rattle.tuple_index.specs.Places.{RisesFrom}
use Rattle.tuple_index.specs.Plan.{plan_of}
use Rattle.uncovered_table.specs.Bits.{first_bit, held_bit}
use Rattle.uncovered_table.specs.Digits.{joined, number_of, own_values, with_digit}
use Rattle.uncovered_table.specs.Pairs.{IsPartner, digit_count}
use Rattle.uncovered_table.specs.Places.{set_at, slice_places}
use Rattle.uncovered_table.proofs.BitLemmas.{bits_before}
use Rattle.uncovered_table.proofs.DigitLemmas.{with_digits}
use Rattle.uncovered_table.proofs.GainLemmas.{number_within}
use Rattle.uncovered_table.proofs.PairLemmas.{above_among, other_digit, own_column}
use Rattle.uncovered_table.proofs.PlaceLemmas.{set_rises}

one_of : (lo hi q : ℕ) → ((q == lo) || (q == hi)) ≡ true → (q ≡ lo) ⊎ (q ≡ hi)
one_of lo hi q is =
    elim (cases_eq q lo) [
      | inl first ↦ inl first
      | inr apart ↦
          let test : (q == lo) ≡ false = grind (arith, nat_tests) in
          let second : (q == hi) ≡ true = sym (ap (λ b. b || (q == hi)) test) ∙ is in
          inr (let same : q ≡ hi = grind (arith, nat_tests) in same)
    ]

-- rising numbers that are one number, and those that are two
one_risen : (a e hi : ℕ) (set : List ℕ) → RisesFrom a e set → a ≤ hi → ((q : ℕ) → a ≤ q → is_among set q ≡ (q == hi)) → set ≡ hi ∷ []
one_risen a e hi [] rises least each = absurd (false≢true (each hi least ∙ eq-eqb hi hi refl))
one_risen a e hi (y ∷ []) rises least each =
    let test : (y == hi) ≡ true = sym (each y rises.0) ∙ ap (λ b. b || false) (eq-eqb y y refl) in
    let same : y ≡ hi = grind (arith, nat_tests) in
    ap (λ n. n ∷ []) same
one_risen a e hi (y ∷ (z ∷ zs)) rises least each =
    let first : (y == hi) ≡ true = sym (each y rises.0) ∙ ap (λ b. b || is_among (z ∷ zs) y) (eq-eqb y y refl) in
    let later : (z == hi) ≡ true =
    sym (each z (omega (arith, rises.0, rises.2.0))) ∙ ap (λ b. (y == z) || (b || is_among zs z)) (eq-eqb z z refl) ∙ or-true (y == z) in
    let one : y ≡ hi = grind (arith, nat_tests) in
    let two : z ≡ hi = grind (arith, nat_tests) in
    absurd (omega (arith, one, two, rises.2.0))

two_risen : (a e lo hi : ℕ) (set : List ℕ) → lo < hi → RisesFrom a e set → ((q : ℕ) → is_among set q ≡ ((q == lo) || (q == hi))) → set ≡ lo ∷ hi ∷ []
two_risen a e lo hi [] less rises each = absurd (false≢true (each lo ∙ ap (λ b. b || (lo == hi)) (eq-eqb lo lo refl)))
two_risen a e lo hi (x ∷ xs) less rises each =
    elim (one_of lo hi x (sym (each x) ∙ ap (λ b. b || is_among xs x) (eq-eqb x x refl))) [
      | inl first ↦
          ap (λ n. n ∷ xs) first ∙ ap (λ rest. lo ∷ rest) (one_risen (x + 1) e hi xs rises.2 (omega (arith, first, less)) (λ q least.
          let apart : (x == q) ≡ false = grind (arith, nat_tests) in
          let before : (q == lo) ≡ false = grind (arith, nat_tests, first) in
          sym (ap (λ b. b || is_among xs q) apart) ∙ each q ∙ ap (λ b. b || (q == hi)) before))
      | inr last ↦
          let test : (x == lo) ≡ false = grind (arith, nat_tests, last) in
          let none : is_among (x ∷ xs) lo ≡ false =
          ap (λ b. b || is_among xs lo) test ∙ above_among (x + 1) e lo xs rises.2 (omega (arith, last, less)) in
          absurd (false≢true (sym none ∙ each lo ∙ ap (λ b. b || (lo == hi)) (eq-eqb lo lo refl)))
    ]

two_number : (values : ℕ → List ℕ) (digits : ℕ → Option ℕ) (a b x y : ℕ) → digits a ≡ Some x → digits b ≡ Some y
    → number_of values digits (a ∷ b ∷ []) ≡ Some (x * length (values b) + y)
two_number values digits a b x y first second =
    ap (λ o. joined o (length (values b) * 1) (joined (digits b) 1 (Some 0))) first ∙ ap (λ o. joined (Some x) (length (values b) * 1) (joined o 1 (Some 0))) second
    ∙ ap Some (let sum : x * (length (values b) * 1) + (y * 1 + 0) ≡ x * length (values b) + y = grind arith in sum)

-- the number of a tuple by its digits: that of the parameter that is declared first counts for more
number-first : (m : ModelView) (slice : Slice) (column d set p e : ℕ) (digits : ℕ → Option ℕ) → IsKept (plan_of m) → IsPartner m slice column set p
    → p < column → digits column ≡ Some d → digits p ≡ Some e
    → number_of (own_values m slice) digits (set_at m set) ≡ Some (e * digit_count m slice column + d)
number-first m slice column d set p e digits kept partner less first second =
    ap (number_of (own_values m slice) digits)
    (two_risen 0 (length m.params) p column (set_at m set) less (set_rises m set kept partner.plays.exists)
    (λ q. partner.members q ∙ or_comm (q == column) (q == p)))
    ∙ two_number (own_values m slice) digits p column e d second first

number-last : (m : ModelView) (slice : Slice) (column d set p e : ℕ) (digits : ℕ → Option ℕ) → IsKept (plan_of m) → IsPartner m slice column set p
    → column ≤ p → digits column ≡ Some d → digits p ≡ Some e
    → number_of (own_values m slice) digits (set_at m set) ≡ Some (d * digit_count m slice p + e)
number-last m slice column d set p e digits kept partner most first second =
    let less : column < p = elim (cases_lt column p) [
      | inl before ↦ before
      | inr past ↦ absurd (partner.apart (let same : p ≡ column = omega (arith, most, past) in same))
    ] in
    ap (number_of (own_values m slice) digits)
    (two_risen 0 (length m.params) column p (set_at m set) less (set_rises m set kept partner.plays.exists) partner.members)
    ∙ two_number (own_values m slice) digits column p d e first second

-- the bit of a tuple by its digits
pub record IsBitOf (m : ModelView) (slice : Slice) (column d set p e bit : ℕ) : Type 0 where
  pub value : (digits : ℕ → Option ℕ) → digits column ≡ Some d → digits p ≡ Some e → held_bit m slice digits set ≡ Some bit
  pub within : bit < length (slice_places m slice)

bit-of : (m : ModelView) (slice : Slice) (column d set p e number bit : ℕ) → IsKept (plan_of m) → IsPartner m slice column set p
    → d < digit_count m slice column → e < digit_count m slice p → bit ≡ first_bit m slice set + number
    → ((digits : ℕ → Option ℕ) → digits column ≡ Some d → digits p ≡ Some e → number_of (own_values m slice) digits (set_at m set) ≡ Some number)
    → IsBitOf m slice column d set p e bit
bit-of m slice column d set p e number bit kept partner own other is each = record {
  value = λ digits first second. ap (option_map (λ n. first_bit m slice set + n)) (each digits first second) ∙ ap Some (sym is);
  within =
      let none : ℕ → Option ℕ = λ q. None in
      let values = own_values m slice in
      let one = with_digit none p e in
      let both = with_digit one column d in
      let below = with_digits values one column d (with_digits values none p e (λ q x is. absurd (let never : None ≡ Some x = is in cc)) other) own in
      let inside = number_within m slice both set number kept partner.plays.exists partner.plays.some below
      (each both (own_column one column d) (other_digit one column d p partner.apart ∙ own_column none p e)) in
      let end = bits_before m slice set (length (demanded_sets m)) partner.plays.exists in
      omega (arith, inside, end, is);
}

summed : (first a x n b y d : ℕ) → first ≡ a → x * n ≡ b → y ≡ d → first + x * n + y ≡ a + (b + d)
summed first a x n b y d one two three = omega (arith, one, two, three)

-- it is that of the number by the first bit of the set
pub bit-first : (m : ModelView) (slice : Slice) (column d set p e first x n y : ℕ) → IsKept (plan_of m) → IsPartner m slice column set p → p < column
    → d < digit_count m slice column → e < digit_count m slice p → first ≡ first_bit m slice set → x ≡ e → n ≡ digit_count m slice column → y ≡ d
    → IsBitOf m slice column d set p e (first + x * n + y)
bit-first m slice column d set p e first x n y kept partner less own other begin digit many last =
    bit-of m slice column d set p e (e * digit_count m slice column + d) (first + x * n + y) kept partner own other
    (summed first (first_bit m slice set) x n (e * digit_count m slice column) y d begin (ap (λ k. k * n) digit ∙ ap (λ k. e * k) many) last)
    (λ digits a b. number-first m slice column d set p e digits kept partner less a b)

pub bit-last : (m : ModelView) (slice : Slice) (column d set p e first x n y : ℕ) → IsKept (plan_of m) → IsPartner m slice column set p → column ≤ p
    → d < digit_count m slice column → e < digit_count m slice p → first ≡ first_bit m slice set → x ≡ d → n ≡ digit_count m slice p → y ≡ e
    → IsBitOf m slice column d set p e (first + x * n + y)
bit-last m slice column d set p e first x n y kept partner most own other begin digit many last =
    bit-of m slice column d set p e (d * digit_count m slice p + e) (first + x * n + y) kept partner own other
    (summed first (first_bit m slice set) x n (d * digit_count m slice p) y e begin (ap (λ k. k * n) digit ∙ ap (λ k. d * k) many) last)
    (λ digits a b. number-last m slice column d set p e digits kept partner most a b)
