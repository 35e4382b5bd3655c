-- Marks beside other marks, read 64 at a time.
use Rattle.std.proofs.Common.{inl, inr, ◌≡◌, ℕ, ◌+◌, ◌-◌, ◌^◌, ◌<◌, ◌≤◌, Bool, true, false, List, length, get_or, cond, bit_and, min, w64, refl, ◌∙◌, sym, ap, subst, arith}
use Rattle.std.specs.Int.{bit_at, bit_not}
use Rattle.std.proofs.lemmas.Bool.{cases_lt, false≢true}
use Rattle.std.proofs.lemmas.List.{get_or_past}
use Rattle.std.proofs.lemmas.Nat.Bits.{bit_at-zero, bit_at_and, bit_at_not}
use Rattle.bit_table.specs.Marks.{AreMarksFrom}
use Rattle.suite_shrink.specs.Within.{AreWithin}

-- a bit of one word is one of the other
other_bit : (x y : ℕ) (own other : Bool) → x ≡ cond own 1 0 → y ≡ cond other 1 0 → min x (1 - y) ≡ 0 → own ≡ true → other ≡ true
other_bit x y true true is_own is_other none own = refl
other_bit x y true false is_own is_other none own =
    let low : x ≡ 1 = is_own in
    let high : y ≡ 0 = is_other in
    absurd (omega (arith, none, low, high))
other_bit x y false other is_own is_other none own = absurd (false≢true own)

pub word_within : (inner outer : List Bool) (from count a b : ℕ) → b < 2 ^ 64 → count ≤ 64 → AreMarksFrom inner from count a → AreMarksFrom outer from count b
    → bit_and a (bit_not w64 b) ≡ 0 → AreWithin inner outer from (from + count)
word_within inner outer from count a b fits few ours others none place past below marked =
    let i = place - from in
    let at : from + i ≡ place = omega (arith, past) in
    let within : i < count = omega (arith, below, past) in
    let bit : min (bit_at a i) (1 - bit_at b i) ≡ 0 =
    sym (bit_at_and a (bit_not w64 b) i ∙ ap (min (bit_at a i)) (bit_at_not w64 b i fits (omega (arith, within, few)))) ∙ ap (λ w. bit_at w i) none ∙ bit_at-zero i in
    subst (λ p. get_or outer p false ≡ true) at
    (other_bit (bit_at a i) (bit_at b i) (get_or inner (from + i) false) (get_or outer (from + i) false) (ours.each i within) (others.each i within) bit
    (subst (λ p. get_or inner p false ≡ true) (sym at) marked))

-- more places
pub within_more : (inner outer : List Bool) (from to : ℕ) → AreWithin inner outer 0 from → AreWithin inner outer from to → AreWithin inner outer 0 to
within_more inner outer from to first second place least below marked = elim (cases_lt place from) [
  | inl before ↦ first place least before marked
  | inr past ↦ second place past below marked
]

-- no place behind the last is marked
pub within_all : (inner outer : List Bool) → AreWithin inner outer 0 (length inner) → (place : ℕ) → get_or inner place false ≡ true → get_or outer place false ≡ true
within_all inner outer within place marked = elim (cases_lt place (length inner)) [
  | inl below ↦ within place (omega arith) below marked
  | inr past ↦ absurd (false≢true (sym (get_or_past inner place false past) ∙ marked))
]
