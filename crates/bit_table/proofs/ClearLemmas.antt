-- A mark that is taken away.
use Rattle.std.proofs.Common.{inl, inr, ◌≡◌, ℕ, ◌*◌, ◌^◌, ◌-◌, ◌/◌, ◌%◌, ◌<◌, ◌≤◌, false, List, length, get_or, set, cond, eqb, bit_and, w64, ◌∙◌, refl, sym, ap, arith}
use Rattle.std.specs.Int.{bit_at, bit_not}
use Rattle.std.specs.List.{count_by}
use Rattle.std.proofs.lemmas.Bool.{cases_eq}
use Rattle.std.proofs.lemmas.Grind.{get_or-set_at}
use Rattle.std.proofs.lemmas.List.{get_or-set_other, length-set, same_lists}
use Rattle.std.proofs.lemmas.List.Sums.{sum_by-set}
use Rattle.std.proofs.lemmas.Nat.Bits.{bit_at-lt, bit_at_clear_other, bit_at_clear_same, shr_and_one}
use Rattle.bit_table.specs.Words.{mark_at, marks_of}
use Rattle.bit_table.proofs.MarkLemmas.{mark_is, marks_long, bit_counted}

-- a word without the bit of a place, and words with this one in place of the former
abbrev pub without : ℕ → ℕ → ℕ
without word place = bit_and word (bit_not w64 (1 * 2 ^ (place % 64) % 2 ^ 64))

abbrev pub cleared : List ℕ → ℕ → ℕ → List ℕ
cleared words place word = set words (place / 64) (without word place)

-- the mark of the place is gone
gone : (words : List ℕ) (place word : ℕ) → place / 64 < length words → mark_at (cleared words place word) place ≡ false
gone words place word inside =
    ap (λ w. eqb (bit_at w (place % 64)) 1) (get_or-set_at words (place / 64) (place / 64) (without word place) 0 refl inside)
    ∙ ap (λ b. eqb b 1) (bit_at_clear_same w64 word (place % 64) (omega arith))

-- each other mark stays
stays : (words : List ℕ) (place word other : ℕ) → place / 64 < length words → word ≡ get_or words (place / 64) 0 → (other ≡ place → ⊥)
    → mark_at (cleared words place word) other ≡ mark_at words other
stays words place word other inside read apart = elim (cases_eq (other / 64) (place / 64)) [
  | inl here ↦
      let bit : other % 64 ≡ place % 64 → ⊥ = λ same. apart (omega (arith, same, here)) in
      ap (λ w. eqb (bit_at w (other % 64)) 1) (get_or-set_at words (place / 64) (other / 64) (without word place) 0 here inside)
      ∙ ap (λ b. eqb b 1) (bit_at_clear_other w64 word (place % 64) (omega arith) (other % 64) (omega arith) bit)
      ∙ ap (λ w. eqb (bit_at w (other % 64)) 1) (read ∙ ap (λ k. get_or words k 0) (sym here))
  | inr elsewhere ↦ ap (λ w. eqb (bit_at w (other % 64)) 1) (get_or-set_other words (place / 64) (other / 64) (without word place) 0 elsewhere)
]

seen_cleared : (words : List ℕ) (size place word : ℕ) → place < size → place / 64 < length words → word ≡ get_or words (place / 64) 0
    → marks_of (cleared words place word) size ≡ set (marks_of words size) place false
seen_cleared words size place word below inside read =
    let marks = marks_of words size in
    let long = marks_long words size in
    let new = marks_of (cleared words place word) size in
    let new_long = marks_long (cleared words place word) size in
    same_lists new (set marks place false) (new_long ∙ sym (length-set marks place false ∙ long))
    (λ other default within.
    let listed : other < size = rw new_long at within in
    mark_is (cleared words place word) size other default listed
    ∙ elim (cases_eq other place) [
      | inl same ↦
          ap (mark_at (cleared words place word)) same ∙ gone words place word inside
          ∙ sym (get_or-set_at marks place other false default same (rw long below))
      | inr apart ↦
          stays words place word other inside read apart ∙ sym (mark_is words size other default listed)
          ∙ sym (get_or-set_other marks place other false default apart)
    ])

-- what a mark that is taken away leaves
pub record Clears (words : List ℕ) (size count place word : ℕ) : Type 0 where
  pub covered : size ≤ 64 * length (cleared words place word)
  pub enough : bit_and (word / 2 ^ (place % 64)) 1 ≤ count
  pub counted : count - bit_and (word / 2 ^ (place % 64)) 1 ≡ count_by (λ mark. mark) (marks_of (cleared words place word) size)
  pub seen : marks_of (cleared words place word) size ≡ set (marks_of words size) place false

pub clears : (words : List ℕ) (size count place word : ℕ) → size ≤ 64 * length words → count ≡ count_by (λ mark. mark) (marks_of words size)
    → place < size → word ≡ get_or words (place / 64) 0 → Clears words size count place word
clears words size count place word covered counted below read =
    let marks = marks_of words size in
    let bit = bit_at word (place % 64) in
    let inside : place / 64 < length words = omega (arith, covered, below) in
    let seen = seen_cleared words size place word below inside read in
    let lowest = shr_and_one word (place % 64) in
    let had : cond (get_or marks place false) 1 0 ≡ bit =
    ap (λ mark. cond mark 1 0) (mark_is words size place false below ∙ ap (λ w. eqb (bit_at w (place % 64)) 1) (sym read))
    ∙ bit_counted bit (bit_at-lt word (place % 64)) in
    let sums = sum_by-set (λ mark. cond mark 1 0) marks place false false (rw (marks_long words size) below) in
    let same = ap (count_by (λ mark. mark)) seen in
    record {
      covered = rw (length-set words (place / 64) (without word place)) covered;
      enough = omega (arith, lowest, had, sums, counted);
      counted = omega (arith, lowest, had, sums, counted, same);
      seen = seen;
    }
