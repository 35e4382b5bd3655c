-- Flags, and the words whose bits they are.
use Rattle.std.proofs.Common.{inl, inr, ◌≡◌, ℕ, ◌+◌, ◌*◌, ◌^◌, ◌%◌, ◌<◌, ◌≤◌, Bool, true, false, List, get_or, take, eqb, bit_or, w64, ◌∙◌, refl, sym, ap, arith}
use Rattle.std.specs.Int.{bit_at}
use Rattle.std.proofs.lemmas.Bool.{cases_eq, cases_lt}
use Rattle.std.proofs.lemmas.List.{get_or-take, get_or_past, length-take}
use Rattle.std.proofs.lemmas.Nat.Bits.{bit_at_set_other, bit_at_set_same}

-- the bits of a word are the first of some flags
abbrev pub AreFirst : ℕ → ℕ → List Bool → Type 0
AreFirst word count flags = (i : ℕ) → eqb (bit_at word i) 1 ≡ get_or (take count flags) i false

-- those behind the first ones aren't among them
past_first : (count i : ℕ) (flags : List Bool) → count ≤ i → get_or (take count flags) i false ≡ false
past_first count i flags past = get_or_past (take count flags) i false (omega (arith, length-take count flags, past))

first_more : (word next bit : ℕ) (flags : List Bool) → AreFirst word bit flags → eqb (bit_at next bit) 1 ≡ get_or flags bit false
    → ((i : ℕ) → (i ≡ bit → ⊥) → bit_at next i ≡ bit_at word i) → AreFirst next (bit + 1) flags
first_more word next bit flags are own others i = elim (cases_eq i bit) [
  | inl same ↦
      ap (λ k. eqb (bit_at next k) 1) same ∙ own ∙ ap (λ k. get_or flags k false) (sym same)
      ∙ sym (get_or-take (bit + 1) flags i false (omega (arith, same)))
  | inr apart ↦
      ap (λ b. eqb b 1) (others i apart) ∙ are i ∙ elim (cases_lt i bit) [
        | inl before ↦ get_or-take bit flags i false before ∙ sym (get_or-take (bit + 1) flags i false (omega (arith, before)))
        | inr from ↦ past_first bit i flags from ∙ sym (past_first (bit + 1) i flags (omega (arith, from, apart)))
      ]
]

-- one flag more, which is set or isn't
pub first_set : (word bit : ℕ) (flags : List Bool) → bit < 64 → AreFirst word bit flags → get_or flags bit false ≡ true
    → AreFirst (bit_or word (1 * 2 ^ bit % 2 ^ 64)) (bit + 1) flags
first_set word bit flags small are set =
    first_more word (bit_or word (1 * 2 ^ bit % 2 ^ 64)) bit flags are (ap (λ b. eqb b 1) (bit_at_set_same w64 word bit small) ∙ sym set)
    (bit_at_set_other w64 word bit small)

pub first_clear : (word bit : ℕ) (flags : List Bool) → AreFirst word bit flags → get_or flags bit false ≡ false → AreFirst word (bit + 1) flags
first_clear word bit flags are clear =
    first_more word word bit flags are (are bit ∙ past_first bit bit flags (omega arith) ∙ sym clear) (λ i apart. refl)
