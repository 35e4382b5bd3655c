-- Marks by words: a mark that is read, and marks on all places.
use Rattle.std.proofs.Common.{inl, inr, ◌≡◌, ℕ, ◌*◌, ◌^◌, ◌-◌, ◌/◌, ◌%◌, ◌<◌, ◌≤◌, Bool, true, false, List, length, get_or, cond, eqb, replicate, ◌∙◌, refl, sym, ap, arith, zero-add}
use Rattle.std.specs.Int.{bit_at}
use Rattle.std.specs.List.{count_by}
use Rattle.std.proofs.lemmas.Bool.{cases_eq, cases_lt}
use Rattle.std.proofs.lemmas.List.{get_or-replicate, get_or_past, length-replicate, same_lists}
use Rattle.std.proofs.lemmas.List.Folds.{sum_by-replicate}
use Rattle.std.proofs.lemmas.List.FromFn.{get_or-map-range_with_len, length-map-range_with_len}
use Rattle.std.proofs.lemmas.Nat.Bits.{bit_at-zero, bit_at_ones}
use Rattle.bit_table.specs.Words.{mark_at, marks_of}

pub marks_long : (words : List ℕ) (size : ℕ) → length (marks_of words size) ≡ size
marks_long words size = length-map-range_with_len (mark_at words) 0 size

pub mark_is : (words : List ℕ) (size place : ℕ) (other : Bool) → place < size → get_or (marks_of words size) place other ≡ mark_at words place
mark_is words size place other inside = get_or-map-range_with_len (mark_at words) 0 size place place other inside (zero-add place)

-- a place of the marks that are seen, and its word
pub viewed_below : (words : List ℕ) (size place : ℕ) (marks : List Bool) → marks_of words size ≡ marks → place < length marks → place < size
viewed_below words size place marks seen below =
    let same = ap length seen in
    let long = marks_long words size in
    omega (arith, same, long, below)

pub word_listed : (words : List ℕ) (size place : ℕ) → size ≤ 64 * length words → place < size → place / 64 < length words
word_listed words size place covered below = omega (arith, covered, below)

-- a place whose bit is 0 has no mark, also past the end
pub unmarked : (words : List ℕ) (size place : ℕ) → mark_at words place ≡ false → get_or (marks_of words size) place false ≡ false
unmarked words size place none = elim (cases_lt place size) [
  | inl inside ↦ mark_is words size place false inside ∙ none
  | inr past ↦ get_or_past (marks_of words size) place false (rw (marks_long words size) past)
]

-- a word of 0 marks nothing, and so do words of zeros
pub unmarked_word : (word i : ℕ) → word ≡ 0 → eqb (bit_at word i) 1 ≡ false
unmarked_word word i none = ap (λ w. eqb (bit_at w i) 1) none ∙ ap (λ b. eqb b 1) (bit_at-zero i)

pub no_marks : (count place : ℕ) → mark_at (replicate count 0) place ≡ false
no_marks count place =
    unmarked_word (get_or (replicate count 0) (place / 64) 0) (place % 64)
    (elim (cases_lt (place / 64) count) [
      | inl inside ↦ get_or-replicate count (place / 64) 0 0 inside
      | inr past ↦ get_or_past (replicate count 0) (place / 64) 0 (omega (arith, length-replicate {A = ℕ} count 0, past))
    ])

all_ones : (count place : ℕ) → place / 64 < count → mark_at (replicate count (2 ^ 64 - 1)) place ≡ true
all_ones count place inside =
    ap (λ w. eqb (bit_at w (place % 64)) 1) (get_or-replicate count (place / 64) (2 ^ 64 - 1) 0 inside)
    ∙ ap (λ b. eqb b 1) (bit_at_ones 64 (place % 64) (omega arith))

pub all_marked : (count size : ℕ) → size ≤ 64 * count → marks_of (replicate count (2 ^ 64 - 1)) size ≡ replicate size true
all_marked count size enough =
    let words = replicate count (2 ^ 64 - 1) in
    let long = marks_long words size in
    same_lists (marks_of words size) (replicate size true) (long ∙ sym (length-replicate size true))
    (λ place other below.
    let inside : place < size = rw long at below in
    mark_is words size place other inside ∙ all_ones count place (omega arith) ∙ sym (get_or-replicate size place true other inside))

pub all_counted : (count size : ℕ) → size ≤ 64 * count → size ≡ count_by (λ mark. mark) (marks_of (replicate count (2 ^ 64 - 1)) size)
all_counted count size enough =
    let each = sum_by-replicate (λ mark. cond mark 1 0) size true in
    let same = ap (count_by (λ mark. mark)) (all_marked count size enough) in
    omega (arith, each, same)

-- a bit is 1 exactly where its mark is counted
pub bit_counted : (bit : ℕ) → bit < 2 → cond (eqb bit 1) 1 0 ≡ bit
bit_counted bit small = elim (cases_eq bit 0) [
  | inl zero ↦ rw zero refl
  | inr some ↦ let one : bit ≡ 1 = omega (arith, some) in rw one refl
]
