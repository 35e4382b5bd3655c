-- The bit of a place in the words of a table.
use Rattle.std.proofs.Common.{inl, inr, ◌≡◌, ℕ, ◌-◌, ◌*◌, ◌/◌, ◌%◌, ◌<◌, ◌||◌, ◌&&◌, false, List, length, get_or, set, eqb, max, bit_or, w64, ◌∙◌, refl, sym, ap, arith}
use Rattle.std.specs.Int.{bit_at}
use Rattle.std.specs.List.{range_with_len}
use Rattle.std.specs.Prelude.{◌==◌}
use Rattle.std.proofs.Math.Bool.{and_comm, or_comm}
use Rattle.std.proofs.lemmas.Bool.{cases_eq, eq-eqb, eqb-true, ne_eqb, or_left}
use Rattle.std.proofs.lemmas.Grind.{get_or-set_at}
use Rattle.std.proofs.lemmas.List.{get_or-set_other}
use Rattle.std.proofs.lemmas.List.Elements.{All-from_get_or}
use Rattle.std.proofs.lemmas.List.Folds.{list_any_at, list_any_none}
use Rattle.std.proofs.lemmas.List.FromFn.{get_or-range_with_len, length-range_with_len}
use Rattle.std.proofs.lemmas.Map.Views.{any-filter_same}
use Rattle.std.proofs.lemmas.Nat.Bits.{bit_at-lt, bit_at_or, bit_at_set_other, bit_at_set_same}
use Rattle.bit_table.specs.Words.{mark_at}
use Rattle.bit_table.proofs.SetLemmas.{marked, with_bit}
use Rattle.definitions.specs.believed.Demand.{is_among}
use Rattle.shared_marks.specs.Adding.{is_of_word}
use Rattle.shared_marks.specs.Steps.{has_bit, places_of}

-- where the bit of a place is set, every other bit stays
pub bit_marked : (words : List ℕ) (place other : ℕ) → place / 64 < length words
    → mark_at (marked words place (get_or words (place / 64) 0)) other ≡ (place == other || mark_at words other)
bit_marked words place other inside = elim (cases_eq other place) [
  | inl same ↦
      ap (mark_at new) same ∙ here place refl ∙ ap (λ n. eqb n 1) (bit_at_set_same w64 word (place % 64) (omega arith))
      ∙ sym (or_left (place == other) (mark_at words other) (eq-eqb place other (sym same)))
  | inr apart ↦ stays apart ∙ sym (ap (λ t. t || mark_at words other) (ne_eqb place other (λ same. apart (sym same))))
]
  where
    word : ℕ
    word = get_or words (place / 64) 0

    new : List ℕ
    new = marked words place word

    here : (k : ℕ) → k / 64 ≡ place / 64 → mark_at new k ≡ eqb (bit_at (with_bit word place) (k % 64)) 1
    here k same = ap (λ w. eqb (bit_at w (k % 64)) 1) (get_or-set_at words (place / 64) (k / 64) (with_bit word place) 0 same inside)

    stays : (other ≡ place → ⊥) → mark_at new other ≡ mark_at words other
    stays apart = elim (cases_eq (other / 64) (place / 64)) [
      | inl same ↦
          let bit : other % 64 ≡ place % 64 → ⊥ = λ equal. apart (omega (arith, same, equal)) in
          here other same ∙ ap (λ n. eqb n 1) (bit_at_set_other w64 word (place % 64) (omega arith) (other % 64) bit)
          ∙ ap (λ k. eqb (bit_at (get_or words k 0) (other % 64)) 1) (sym same)
      | inr elsewhere ↦ ap (λ w. eqb (bit_at w (other % 64)) 1) (get_or-set_other words (place / 64) (other / 64) (with_bit word place) 0 elsewhere)
    ]

-- where the bits of a number are set in a word, every other bit stays
either : (a b : ℕ) → a < 2 → b < 2 → eqb (max a b) 1 ≡ (eqb a 1 || eqb b 1)
either a b small_a small_b = elim (cases_eq a 0) [
  | inl zero ↦ let same : max a b ≡ b = omega (arith, zero) in rw (same, zero) refl
  | inr some ↦ let one : a ≡ 1 = omega (arith, some) in let same : max a b ≡ 1 = omega (arith, one) in rw (same, one) refl
]

pub bits_marked : (words : List ℕ) (word bits other : ℕ) → word < length words
    → mark_at (set words word (bit_or (get_or words word 0) bits)) other ≡ (is_of_word word bits other || mark_at words other)
bits_marked words word bits other inside = elim (cases_eq (other / 64) word) [
  | inl same ↦
      ap (λ w. eqb (bit_at w (other % 64)) 1) (get_or-set_at words word (other / 64) new 0 same inside)
      ∙ ap (λ b. eqb b 1) (bit_at_or old bits (other % 64))
      ∙ either (bit_at old (other % 64)) (bit_at bits (other % 64)) (bit_at-lt old (other % 64)) (bit_at-lt bits (other % 64))
      ∙ or_comm (eqb (bit_at old (other % 64)) 1) (has_bit bits other)
      ∙ ap (λ k. has_bit bits other || eqb (bit_at (get_or words k 0) (other % 64)) 1) (sym same)
      ∙ ap (λ t. (t && has_bit bits other) || mark_at words other) (sym (eq-eqb (other / 64) word same))
  | inr apart ↦
      ap (λ w. eqb (bit_at w (other % 64)) 1) (get_or-set_other words word (other / 64) new 0 apart)
      ∙ ap (λ t. (t && has_bit bits other) || mark_at words other) (sym (ne_eqb (other / 64) word apart))
]
  where
    old : ℕ
    old = get_or words word 0

    new : ℕ
    new = bit_or old bits

-- the places of a word
of_word : (word other : ℕ) → is_among (range_with_len (64 * word) 64) other ≡ (other / 64 == word)
of_word word other = elim (cases_eq (other / 64) word) [
  | inl same ↦
      list_any_at (λ k. k == other) range (other - 64 * word) 0 (omega (arith, length-range_with_len (64 * word) 64, same))
      (eq-eqb (get_or range (other - 64 * word) 0) other
      (omega (arith, get_or-range_with_len (64 * word) 64 (other - 64 * word) 0 (omega (arith, same)), same)))
      ∙ sym (eq-eqb (other / 64) word same)
  | inr apart ↦
      list_any_none (λ k. k == other) range (All-from_get_or (λ k. (k == other) ≡ false) range 0 (λ i within.
      let inside : i < 64 = omega (arith, within, length-range_with_len (64 * word) 64) in
      ne_eqb (get_or range i 0) other (λ same. apart (omega (arith, get_or-range_with_len (64 * word) 64 i 0 inside, same, inside)))))
      ∙ sym (ne_eqb (other / 64) word apart)
]
  where
    range : List ℕ
    range = range_with_len (64 * word) 64

pub places_among : (word bits other : ℕ) → is_among (places_of word bits) other ≡ is_of_word word bits other
places_among word bits other =
    any-filter_same (λ k. k == other) (has_bit bits) (has_bit bits other) (λ k same. ap (has_bit bits) (eqb-true k other same)) (range_with_len (64 * word) 64)
    ∙ and_comm (has_bit bits other) (is_among (range_with_len (64 * word) 64) other) ∙ ap (λ t. t && has_bit bits other) (of_word word other)
