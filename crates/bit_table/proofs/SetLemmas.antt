-- A mark that is set.
use Rattle.std.proofs.Common.{inl, inr, ◌≡◌, ℕ, ◌*◌, ◌^◌, ◌-◌, ◌+◌, ◌/◌, ◌%◌, ◌<◌, ◌≤◌, false, List, length, get_or, set, cond, eqb, bit_and, bit_or, w64, true, ◌∙◌, refl, sym, ap, arith}
use Rattle.std.specs.Int.{bit_at}
use Rattle.std.specs.List.{count_by}
use Rattle.std.proofs.lemmas.Bool.{cases_eq}
use Rattle.std.proofs.lemmas.Grind.{get_or-set_at}
use Rattle.std.proofs.lemmas.List.{get_or-set_other, length-set, same_lists}
use Rattle.std.proofs.lemmas.List.Sums.{sum_by-set, count_by-le-length}
use Rattle.std.proofs.lemmas.Nat.Bits.{bit_at-lt, bit_at_set_other, bit_at_set_same, shr_and_one}
use Rattle.bit_table.specs.Words.{mark_at, marks_of}
use Rattle.bit_table.proofs.MarkLemmas.{mark_is, marks_long, bit_counted}

-- a word with the bit of a place, and words with this one in place of the former
abbrev pub with_bit : ℕ → ℕ → ℕ
with_bit word place = bit_or word (1 * 2 ^ (place % 64) % 2 ^ 64)

abbrev pub marked : List ℕ → ℕ → ℕ → List ℕ
marked words place word = set words (place / 64) (with_bit word place)

-- the place has its mark
pub is_there : (words : List ℕ) (place word : ℕ) → place / 64 < length words → mark_at (marked words place word) place ≡ true
is_there words place word inside =
    ap (λ w. eqb (bit_at w (place % 64)) 1) (get_or-set_at words (place / 64) (place / 64) (with_bit word place) 0 refl inside)
    ∙ ap (λ b. eqb b 1) (bit_at_set_same w64 word (place % 64) (omega arith))

-- each other mark stays
pub stays : (words : List ℕ) (place word other : ℕ) → place / 64 < length words → word ≡ get_or words (place / 64) 0 → (other ≡ place → ⊥)
    → mark_at (marked words place word) other ≡ mark_at words other
stays words place word other inside read apart = elim (cases_eq (other / 64) (place / 64)) [
  | inl here ↦
      let bit : other % 64 ≡ place % 64 → ⊥ = λ same. apart (omega (arith, same, here)) in
      ap (λ w. eqb (bit_at w (other % 64)) 1) (get_or-set_at words (place / 64) (other / 64) (with_bit word place) 0 here inside)
      ∙ ap (λ b. eqb b 1) (bit_at_set_other w64 word (place % 64) (omega arith) (other % 64) bit)
      ∙ ap (λ w. eqb (bit_at w (other % 64)) 1) (read ∙ ap (λ k. get_or words k 0) (sym here))
  | inr elsewhere ↦ ap (λ w. eqb (bit_at w (other % 64)) 1) (get_or-set_other words (place / 64) (other / 64) (with_bit word place) 0 elsewhere)
]

seen_marked : (words : List ℕ) (size place word : ℕ) → place < size → place / 64 < length words → word ≡ get_or words (place / 64) 0
    → marks_of (marked words place word) size ≡ set (marks_of words size) place true
seen_marked words size place word below inside read =
    let marks = marks_of words size in
    let long = marks_long words size in
    let new = marks_of (marked words place word) size in
    let new_long = marks_long (marked words place word) size in
    same_lists new (set marks place true) (new_long ∙ sym (length-set marks place true ∙ long))
    (λ other default within.
    let listed : other < size = rw new_long at within in
    mark_is (marked words place word) size other default listed
    ∙ elim (cases_eq other place) [
      | inl same ↦
          ap (mark_at (marked words place word)) same ∙ is_there words place word inside
          ∙ sym (get_or-set_at marks place other true default same (rw long below))
      | inr apart ↦
          stays words place word other inside read apart ∙ sym (mark_is words size other default listed)
          ∙ sym (get_or-set_other marks place other true default apart)
    ])

-- what a mark that is set leaves
pub record Sets (words : List ℕ) (size count place word : ℕ) : Type 0 where
  pub covered : size ≤ 64 * length (marked words place word)
  pub low : bit_and (word / 2 ^ (place % 64)) 1 ≤ 1
  pub counted : count + (1 - bit_and (word / 2 ^ (place % 64)) 1) ≡ count_by (λ mark. mark) (marks_of (marked words place word) size)
  pub few : count + (1 - bit_and (word / 2 ^ (place % 64)) 1) ≤ size
  pub seen : marks_of (marked words place word) size ≡ set (marks_of words size) place true

pub sets : (words : List ℕ) (size count place word : ℕ) → size ≤ 64 * length words → count ≡ count_by (λ mark. mark) (marks_of words size)
    → place < size → word ≡ get_or words (place / 64) 0 → Sets words size count place word
sets words size count place word covered counted below read =
    let marks = marks_of words size in
    let bit = bit_at word (place % 64) in
    let inside : place / 64 < length words = omega (arith, covered, below) in
    let seen = seen_marked words size place word below inside read in
    let lowest = shr_and_one word (place % 64) in
    let small = bit_at-lt word (place % 64) in
    let had : cond (get_or marks place false) 1 0 ≡ bit =
    ap (λ mark. cond mark 1 0) (mark_is words size place false below ∙ ap (λ w. eqb (bit_at w (place % 64)) 1) (sym read))
    ∙ bit_counted bit (bit_at-lt word (place % 64)) in
    let sums = sum_by-set (λ mark. cond mark 1 0) marks place true false (rw (marks_long words size) below) in
    let same = ap (count_by (λ mark. mark)) seen in
    let most = count_by-le-length (λ mark. mark) (marks_of (marked words place word) size) in
    let long = marks_long (marked words place word) size in
    record {
      covered = rw (length-set words (place / 64) (with_bit word place)) covered;
      low = omega (arith, lowest, small);
      counted = omega (arith, lowest, had, sums, counted, same, small);
      few = omega (arith, lowest, had, sums, counted, same, small, most, long);
      seen = seen;
    }
