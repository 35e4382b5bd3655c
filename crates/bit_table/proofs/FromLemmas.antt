-- The marks of neighbouring places, read as a word.
use Rattle.std.proofs.Common.{inl, inr, ◌≡◌, ℕ, ◌*◌, ◌+◌, ◌^◌, ◌-◌, ◌/◌, ◌%◌, ◌<◌, ◌≤◌, false, List, get_or, cond, eqb, bit_and, bit_or, ◌∙◌, sym, ap, arith, add-zero}
use Rattle.std.specs.Prelude.{min, max}
use Rattle.std.specs.Int.{bit_at}
use Rattle.std.proofs.lemmas.Bool.{cases_lt}
use Rattle.std.proofs.lemmas.Nat.{pow_pos}
use Rattle.std.proofs.lemmas.Nat.Bits.{bit_at-lt, bit_at-zero, bit_at_above, bit_at_and, bit_at_cat_high, bit_at_cat_low, bit_at_ones, bit_at_ones_above, bit_at_or}
use Rattle.bit_table.specs.Marks.{AreMarksFrom}
use Rattle.bit_table.specs.Words.{AreBits, mark_at, marks_of}
use Rattle.bit_table.proofs.MarkLemmas.{bit_counted, mark_is}
use Rattle.bit_table.proofs.NextLemmas.{bit_of_rest}

-- the bits of a word that is shifted to the left
bit_within : (word i : ℕ) → i < 64 → bit_at (word % 2 ^ 64) i ≡ bit_at word i
bit_within word i small =
    sym (bit_at_cat_low (word / 2 ^ 64) 64 (word % 2 ^ 64) i small) ∙ ap (λ w. bit_at w i) (omega arith)

shifted_low : (word k i : ℕ) → i < 64 → i < k → bit_at (word * 2 ^ k % 2 ^ 64) i ≡ 0
shifted_low word k i small low =
    bit_within (word * 2 ^ k) i small ∙ ap (λ w. bit_at w i) (sym (add-zero (word * 2 ^ k))) ∙ bit_at_cat_low word k 0 i low ∙ bit_at-zero i

shifted_high : (word k i : ℕ) → i < 64 → k ≤ i → bit_at (word * 2 ^ k % 2 ^ 64) i ≡ bit_at word (i - k)
shifted_high word k i small high =
    bit_within (word * 2 ^ k) i small ∙ ap (λ w. bit_at w i) (sym (add-zero (word * 2 ^ k))) ∙ bit_at_cat_high word k 0 i (pow_pos k) high

-- the bits of two words from a bit of the first on
pub across_low : (low high bit i : ℕ) → bit < 64 → bit + i < 64
    → bit_at (bit_or (low / 2 ^ bit) (high * 2 ^ (64 - bit) % 2 ^ 64)) i ≡ bit_at low (bit + i)
across_low low high bit i within small =
    let one = bit_of_rest low bit i in
    let other = shifted_low high (64 - bit) i (omega (arith, small)) (omega (arith, small, within)) in
    bit_at_or (low / 2 ^ bit) (high * 2 ^ (64 - bit) % 2 ^ 64) i ∙ ap (max (bit_at (low / 2 ^ bit) i)) other ∙ omega (arith, one)

pub across_high : (low high bit i : ℕ) → low < 2 ^ 64 → bit < 64 → 64 ≤ bit + i → i < 64
    → bit_at (bit_or (low / 2 ^ bit) (high * 2 ^ (64 - bit) % 2 ^ 64)) i ≡ bit_at high (bit + i - 64)
across_high low high bit i fits within far small =
    let none = bit_of_rest low bit i ∙ bit_at_above low 64 (bit + i) fits far in
    let other = shifted_high high (64 - bit) i small (omega (arith, far, within)) in
    let same : i - (64 - bit) ≡ bit + i - 64 = omega (arith, far, within) in
    let one = other ∙ ap (bit_at high) same in
    bit_at_or (low / 2 ^ bit) (high * 2 ^ (64 - bit) % 2 ^ 64) i ∙ ap (λ b. max b (bit_at (high * 2 ^ (64 - bit) % 2 ^ 64) i)) none
    ∙ omega (arith, one)

-- the lowest bits of a word, and no other
kept : (word count i : ℕ) → count ≤ 64 → i < count → bit_at (bit_and word ((2 ^ 64 - 1) / 2 ^ (64 - count))) i ≡ bit_at word i
kept word count i few within =
    let one = bit_of_rest (2 ^ 64 - 1) (64 - count) i ∙ bit_at_ones 64 (64 - count + i) (omega (arith, few, within)) in
    let small = bit_at-lt word i in
    bit_at_and word ((2 ^ 64 - 1) / 2 ^ (64 - count)) i ∙ ap (min (bit_at word i)) one ∙ omega (arith, small)

lost : (word count i : ℕ) → count ≤ 64 → count ≤ i → bit_at (bit_and word ((2 ^ 64 - 1) / 2 ^ (64 - count))) i ≡ 0
lost word count i few past =
    let none = bit_of_rest (2 ^ 64 - 1) (64 - count) i ∙ bit_at_ones_above 64 (64 - count + i) (omega (arith, few, past)) in
    bit_at_and word ((2 ^ 64 - 1) / 2 ^ (64 - count)) i ∙ ap (min (bit_at word i)) none ∙ omega arith

-- what is known of the bits from a place on
abbrev pub AreBitsFrom : List ℕ → ℕ → ℕ → ℕ → Type 0
AreBitsFrom words from count word = AreBits (get_or words (from / 64) 0) (get_or words (from / 64 + 1) 0) (from % 64) count word

mark_read : (words : List ℕ) (from count word i : ℕ) → AreBitsFrom words from count word → i < count → count ≤ 64
    → mark_at words (from + i) ≡ eqb (bit_at word i) 1
mark_read words from count word i bits within few = elim (cases_lt (from % 64 + i) 64) [
  | inl near ↦
      let at : (from + i) / 64 ≡ from / 64 = omega (arith, near) in
      let bit : (from + i) % 64 ≡ from % 64 + i = omega (arith, near) in
      ap (λ k. eqb (bit_at (get_or words k 0) ((from + i) % 64)) 1) at ∙ ap (λ k. eqb (bit_at (get_or words (from / 64) 0) k) 1) bit
      ∙ ap (λ b. eqb b 1) (sym (bits.below i within near))
  | inr far ↦
      let at : (from + i) / 64 ≡ from / 64 + 1 = omega (arith, far, within, few) in
      let bit : (from + i) % 64 ≡ from % 64 + i - 64 = omega (arith, far, within, few) in
      ap (λ k. eqb (bit_at (get_or words k 0) ((from + i) % 64)) 1) at ∙ ap (λ k. eqb (bit_at (get_or words (from / 64 + 1) 0) k) 1) bit
      ∙ ap (λ b. eqb b 1) (sym (bits.above i within far))
]

pub marks_read : (words : List ℕ) (size from count word : ℕ) → AreBitsFrom words from count word → count ≤ 64 → from + count ≤ size
    → AreMarksFrom (marks_of words size) from count (bit_and word ((2 ^ 64 - 1) / 2 ^ (64 - count)))
marks_read words size from count word bits few within = record {
  each = λ i below. kept word count i few below ∙ sym (bit_counted (bit_at word i) (bit_at-lt word i))
      ∙ ap (λ mark. cond mark 1 0)
      (sym (mark_is words size (from + i) false (omega (arith, below, within)) ∙ mark_read words from count word i bits below few));
  no_other = λ i past. lost word count i few past;
}
