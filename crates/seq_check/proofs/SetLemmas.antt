-- Sets of events as bits.
use Rattle.std.proofs.Common.{inl, inr, ◌≡◌, ℕ, ◌*◌, ◌^◌, ◌-◌, ◌%◌, ◌<◌, ◌||◌, ◌&&◌, Bool, true, false, not, cond, eqb, min}
use Rattle.std.proofs.Common.{max, bit_and, bit_or, w64, ◌∙◌, refl, sym, ap, arith, replicate, get_or, set, length, List}
use Rattle.std.proofs.lemmas.List.{get_or-replicate, get_or_past, length-replicate, get_or-set_other}
use Rattle.std.proofs.lemmas.Grind.{get_or-set_at}
use Rattle.seq_check.specs.EventSets.{in_set, in_set_at, no_events}
use Rattle.seq_check.specs.declared.event_set.EventSet.{EventSet}
use Rattle.std.specs.Int.{bit_at, bit_not, trailing_zeros}
use Rattle.std.proofs.lemmas.Bool.{cases_eq, cases_lt, eq-eqb, ne_eqb, or_right, cond-true, cond-false}
use Rattle.std.proofs.lemmas.Nat.Bits.{bit_at-lt, bit_at-zero, bit_at_and, bit_at_or, bit_at_not, bit_at_set_same, bit_at_set_other, bit_at-trailing_zeros}
use Rattle.std.proofs.Math.Bool.{or-false, and-true}

-- what a bit says
abbrev pub is_one : ℕ → Bool
is_one bit = eqb bit 1

either : (a b : ℕ) → a < 2 → b < 2 → is_one (max a b) ≡ (is_one a || is_one b)
either a b small_a small_b = elim (cases_eq a 0) [
  | inl zero ↦ let same : max a b ≡ b = omega (arith, zero) in rw (same, zero) refl
  | inr some ↦ let one : a ≡ 1 = omega (arith, some) in let same : max a b ≡ 1 = omega (arith, one) in rw (same, one) refl
]

each : (a b : ℕ) → a < 2 → b < 2 → is_one (min a b) ≡ (is_one a && is_one b)
each a b small_a small_b = elim (cases_eq a 0) [
  | inl zero ↦ let same : min a b ≡ 0 = omega (arith, zero) in rw (same, zero) refl
  | inr some ↦ let one : a ≡ 1 = omega (arith, some) in let same : min a b ≡ b = omega (arith, one) in rw (same, one) refl
]

other_one : (a : ℕ) → a < 2 → is_one (1 - a) ≡ not (is_one a)
other_one a small = elim (cases_eq a 0) [
  | inl zero ↦ rw zero refl
  | inr some ↦ let one : a ≡ 1 = omega (arith, some) in rw one refl
]

pub in_union : (a b event : ℕ) → is_one (bit_at (bit_or a b) event) ≡ (is_one (bit_at a event) || is_one (bit_at b event))
in_union a b event = ap is_one (bit_at_or a b event) ∙ either (bit_at a event) (bit_at b event) (bit_at-lt a event) (bit_at-lt b event)

pub in_common : (a b event : ℕ) → is_one (bit_at (bit_and a b) event) ≡ (is_one (bit_at a event) && is_one (bit_at b event))
in_common a b event = ap is_one (bit_at_and a b event) ∙ each (bit_at a event) (bit_at b event) (bit_at-lt a event) (bit_at-lt b event)

pub in_without : (a b event : ℕ) → b < 2 ^ 64 → event < 64 → is_one (bit_at (bit_and a (bit_not w64 b)) event) ≡ (is_one (bit_at a event) && not (is_one (bit_at b event)))
in_without a b event fits within =
    in_common a (bit_not w64 b) event
    ∙ ap (λ bit. is_one (bit_at a event) && is_one bit) (bit_at_not w64 b event fits within)
    ∙ ap (λ t. is_one (bit_at a event) && t) (other_one (bit_at b event) (bit_at-lt b event))

pub in_with : (a event other : ℕ) → event < 64 → is_one (bit_at (bit_or a (1 * 2 ^ event % 2 ^ 64)) other) ≡ (is_one (bit_at a other) || eqb event other)
in_with a event other within = elim (cases_eq event other) [
  | inl same ↦
      ap (λ k. is_one (bit_at (bit_or a (1 * 2 ^ event % 2 ^ 64)) k)) (sym same) ∙ ap is_one (bit_at_set_same w64 a event within)
      ∙ sym (or_right (is_one (bit_at a other)) (eqb event other) (eq-eqb event other same))
  | inr apart ↦
      ap is_one (bit_at_set_other w64 a event within other (λ e. apart (sym e)))
      ∙ sym (ap (λ t. is_one (bit_at a other) || t) (ne_eqb event other apart) ∙ or-false (is_one (bit_at a other)))
]

-- the same set at each place
pub in_each : (set : EventSet) (count place event : ℕ) → place < count → in_set_at (replicate count set) place event ≡ in_set set event
in_each set count place event within = ap (λ s. in_set s event) (get_or-replicate count place set no_events within)

-- no events
pub in_none : (set : EventSet) (count place event : ℕ) → in_set set event ≡ false → in_set_at (replicate count set) place event ≡ false
in_none set count place event none = elim (cases_lt place count) [
  | inl within ↦ in_each set count place event within ∙ none
  | inr past ↦ ap (λ s. in_set s event) (get_or_past (replicate count set) place no_events (rw (length-replicate count set) past)) ∙ ap is_one (bit_at-zero event)
]

-- the lowest bit that is set
pub least_in : (a : ℕ) → 0 < a → a < 2 ^ 64 → (trailing_zeros w64 a < 64) × (is_one (bit_at a (trailing_zeros w64 a)) ≡ true)
    × ((event : ℕ) → event < trailing_zeros w64 a → is_one (bit_at a event) ≡ false)
least_in a some fits =
    let found = bit_at-trailing_zeros w64 a some fits in
    (found.0, ap is_one found.1, λ event below. ap is_one (found.2 event below))

-- a set of a list is written over
pub in_written : (sets : List EventSet) (place : ℕ) (new : EventSet) (other event : ℕ) → place < length sets
    → in_set_at (set sets place new) other event ≡ cond (eqb place other) (in_set new event) (in_set_at sets other event)
in_written sets place new other event within = elim (cases_eq place other) [
  | inl same ↦
      ap (λ s. in_set s event) (get_or-set_at sets place other new no_events (sym same) within)
      ∙ sym (cond-true (eqb place other) (in_set new event) (in_set_at sets other event) (eq-eqb place other same))
  | inr apart ↦
      ap (λ s. in_set s event) (get_or-set_other sets place other new no_events (λ e. apart (sym e)))
      ∙ sym (cond-false (eqb place other) (in_set new event) (in_set_at sets other event) (ne_eqb place other apart))
]

-- with an event besides, and without some
pub in_added : (sets : List EventSet) (place event : ℕ) (old new : EventSet) (other k : ℕ) → place < length sets → old ≡ get_or sets place no_events
    → in_set new k ≡ (in_set old k || eqb event k)
    → in_set_at (set sets place new) other k ≡ (in_set_at sets other k || (eqb place other && eqb event k))
in_added sets place event old new other k within read more = elim (cases_eq place other) [
  | inl same ↦
      in_written sets place new other k within ∙ cond-true (eqb place other) (in_set new k) (in_set_at sets other k) (eq-eqb place other same) ∙ more
      ∙ ap (λ s. in_set s k || eqb event k) (read ∙ ap (λ i. get_or sets i no_events) same)
      ∙ ap (λ t. in_set_at sets other k || (t && eqb event k)) (sym (eq-eqb place other same))
  | inr apart ↦
      in_written sets place new other k within ∙ cond-false (eqb place other) (in_set new k) (in_set_at sets other k) (ne_eqb place other apart)
      ∙ sym (or-false (in_set_at sets other k)) ∙ ap (λ t. in_set_at sets other k || (t && eqb event k)) (sym (ne_eqb place other apart))
]

pub in_joined : (sets : List EventSet) (place : ℕ) (old new more : EventSet) (other k : ℕ) → place < length sets → old ≡ get_or sets place no_events
    → in_set new k ≡ (in_set old k || in_set more k)
    → in_set_at (set sets place new) other k ≡ (in_set_at sets other k || (eqb place other && in_set more k))
in_joined sets place old new more other k within read both = elim (cases_eq place other) [
  | inl same ↦
      in_written sets place new other k within ∙ cond-true (eqb place other) (in_set new k) (in_set_at sets other k) (eq-eqb place other same) ∙ both
      ∙ ap (λ s. in_set s k || in_set more k) (read ∙ ap (λ i. get_or sets i no_events) same)
      ∙ ap (λ t. in_set_at sets other k || (t && in_set more k)) (sym (eq-eqb place other same))
  | inr apart ↦
      in_written sets place new other k within ∙ cond-false (eqb place other) (in_set new k) (in_set_at sets other k) (ne_eqb place other apart)
      ∙ sym (or-false (in_set_at sets other k)) ∙ ap (λ t. in_set_at sets other k || (t && in_set more k)) (sym (ne_eqb place other apart))
]

pub in_closed : (sets : List EventSet) (place : ℕ) (old new lasts : EventSet) (other k : ℕ) → place < length sets → old ≡ get_or sets place no_events
    → in_set new k ≡ (in_set old k && not (in_set lasts k))
    → in_set_at (set sets place new) other k ≡ (in_set_at sets other k && not (eqb place other && in_set lasts k))
in_closed sets place old new lasts other k within read less = elim (cases_eq place other) [
  | inl same ↦
      in_written sets place new other k within ∙ cond-true (eqb place other) (in_set new k) (in_set_at sets other k) (eq-eqb place other same) ∙ less
      ∙ ap (λ s. in_set s k && not (in_set lasts k)) (read ∙ ap (λ i. get_or sets i no_events) same)
      ∙ ap (λ t. in_set_at sets other k && not (t && in_set lasts k)) (sym (eq-eqb place other same))
  | inr apart ↦
      in_written sets place new other k within ∙ cond-false (eqb place other) (in_set new k) (in_set_at sets other k) (ne_eqb place other apart)
      ∙ sym (and-true (in_set_at sets other k)) ∙ ap (λ t. in_set_at sets other k && not (t && in_set lasts k)) (sym (ne_eqb place other apart))
]
