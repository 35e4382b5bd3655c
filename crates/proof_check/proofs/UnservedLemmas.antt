-- The places that are left and not served, read 64 at a time.
use Rattle.std.proofs.Common.{inl, inr, ◌≡◌, ℕ, ◌+◌, ◌-◌, ◌^◌, ◌<◌, ◌≤◌, Bool, true, false, ◌&&◌, not, List, length, get_or, cond, eqb, bit_and, min, w64, ◌∙◌, refl, sym, ap, arith}
use Rattle.std.specs.Int.{bit_at, bit_not, trailing_zeros}
use Rattle.std.proofs.lemmas.Bool.{cases_lt}
use Rattle.std.proofs.lemmas.Nat.Bits.{bit_at-trailing_zeros, bit_at-zero, bit_at_and, bit_at_not}
use Rattle.bit_table.specs.Marks.{AreMarksFrom}
use Rattle.proof_check.specs.Left.{AreUnservedFrom, IsFirstLeft, NoneLeft}

-- a bit of one word that isn't one of the other
unserved_bit : (x y : ℕ) (l s : Bool) → x ≡ cond l 1 0 → y ≡ cond s 1 0 → eqb (min x (1 - y)) 1 ≡ (l && not s)
unserved_bit x y true true is_left is_served = rw (is_left, is_served) refl
unserved_bit x y true false is_left is_served = rw (is_left, is_served) refl
unserved_bit x y false true is_left is_served = rw (is_left, is_served) refl
unserved_bit x y false false is_left is_served = rw (is_left, is_served) refl

pub unserved_read : (left served : List Bool) (from count a b : ℕ) → b < 2 ^ 64 → count ≤ 64 → AreMarksFrom left from count a → AreMarksFrom served from count b
    → AreUnservedFrom left served from count (bit_and a (bit_not w64 b))
unserved_read left served from count a b fits few ours others = record {
  each = λ i within.
      ap (λ n. eqb n 1) (bit_at_and a (bit_not w64 b) i ∙ ap (min (bit_at a i)) (bit_at_not w64 b i fits (omega (arith, within, few))))
      ∙ unserved_bit (bit_at a i) (bit_at b i) (get_or left (from + i) false) (get_or served (from + i) false) (ours.each i within) (others.each i within);
  no_other = λ i past.
      let none = ours.no_other i past in bit_at_and a (bit_not w64 b) i ∙ omega (arith, none);
}

-- where no bit is set, none of the places is left and not served
pub none_more : (left served : List Bool) (from count word : ℕ) → NoneLeft left served from → AreUnservedFrom left served from count word → word ≡ 0
    → NoneLeft left served (from + count)
none_more left served from count word so_far are none place below = elim (cases_lt place from) [
  | inl before ↦ so_far place before
  | inr past ↦
      let at : from + (place - from) ≡ place = omega (arith, past) in
      ap (λ p. get_or left p false && not (get_or served p false)) (sym at) ∙ sym (are.each (place - from) (omega (arith, below, past)))
      ∙ ap (λ w. eqb (bit_at w (place - from)) 1) none ∙ ap (λ b. eqb b 1) (bit_at-zero (place - from))
]

-- the lowest bit is the first of them
pub first_is : (left served : List Bool) (from count word : ℕ) → from + count ≤ length left → count ≤ 64 → 0 < word → word < 2 ^ 64 → NoneLeft left served from
    → AreUnservedFrom left served from count word → IsFirstLeft left served (from + trailing_zeros w64 word)
first_is left served from count word within few some fits so_far are =
    let lowest = bit_at-trailing_zeros w64 word some fits in
    let first = trailing_zeros w64 word in
    let inside : first < count = elim (cases_lt first count) [
      | inl before ↦ before
      | inr past ↦ absurd (omega (arith, lowest.1, are.no_other first past))
    ] in
    record {
      within = omega (arith, within, inside);
      unserved = sym (are.each first inside) ∙ ap (λ b. eqb b 1) lowest.1;
      none_before = λ place below. elim (cases_lt place from) [
        | inl before ↦ so_far place before
        | inr past ↦
            let at : from + (place - from) ≡ place = omega (arith, past) in
            ap (λ p. get_or left p false && not (get_or served p false)) (sym at) ∙ sym (are.each (place - from) (omega (arith, below, past, inside)))
            ∙ ap (λ b. eqb b 1) (lowest.2 (place - from) (omega (arith, below, past)))
      ];
    }
