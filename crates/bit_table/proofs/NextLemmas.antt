-- The next mark: the words are gone over from the one of a place on.
use Rattle.std.proofs.Common.{inl, inr, ◌≡◌, ℕ, ◌*◌, ◌+◌, ◌^◌, ◌-◌, ◌/◌, ◌%◌, ◌<◌, ◌≤◌, Bool, true, false, List, length, get_or, eqb, w64, ◌∙◌, sym, ap, subst, arith}
use Rattle.std.specs.Int.{bit_at, trailing_zeros}
use Rattle.std.proofs.Math.Nat.{div-div-eq-div-mul, div-le_self}
use Rattle.std.proofs.lemmas.Bool.{cases_lt}
use Rattle.std.proofs.lemmas.Nat.{pow-add}
use Rattle.std.proofs.lemmas.Nat.Bits.{bit_at-trailing_zeros, bit_at-zero, bit_at_above}
use Rattle.bit_table.specs.Marks.{IsFirstSet, NoneSet}
use Rattle.bit_table.specs.Words.{mark_at, marks_of}
use Rattle.bit_table.proofs.MarkLemmas.{mark_is, unmarked, viewed_below, word_listed}

-- the bits of the word of a place from the place on, and how many of them are 0 before the first 1
abbrev pub rest_at : List ℕ → ℕ → ℕ
rest_at words place = get_or words (place / 64) 0 / 2 ^ (place % 64)

abbrev pub next_at : List ℕ → ℕ → ℕ
next_at words place = place + trailing_zeros w64 (rest_at words place)

pub bit_of_rest : (word k i : ℕ) → bit_at (word / 2 ^ k) i ≡ bit_at word (k + i)
bit_of_rest word k i = ap (λ q. q % 2) (div-div-eq-div-mul word (2 ^ k) (2 ^ i) ∙ ap (λ m. word / m) (sym (pow-add 2 k i)))

-- the mark of a place further on in the word
mark_of_rest : (words : List ℕ) (place i : ℕ) → place % 64 + i < 64 → mark_at words (place + i) ≡ eqb (bit_at (rest_at words place) i) 1
mark_of_rest words place i within =
    let same : (place + i) / 64 ≡ place / 64 = omega (arith, within) in
    let bit : (place + i) % 64 ≡ place % 64 + i = omega (arith, within) in
    ap (λ k. eqb (bit_at (get_or words k 0) ((place + i) % 64)) 1) same
    ∙ ap (λ k. eqb (bit_at (get_or words (place / 64) 0) k) 1) bit
    ∙ ap (λ b. eqb b 1) (sym (bit_of_rest (get_or words (place / 64) 0) (place % 64) i))

-- no mark before a place, and none on a number of places of its word from there on
none_further : (words : List ℕ) (size from place count : ℕ) → place % 64 + count ≤ 64 → ((i : ℕ) → i < count → bit_at (rest_at words place) i ≡ 0)
    → NoneSet (marks_of words size) from place → NoneSet (marks_of words size) from (place + count)
none_further words size from place count within empty before other least below = elim (cases_lt other place) [
  | inl earlier ↦ before other least earlier
  | inr later ↦
      let i = other - place in
      let at : other ≡ place + i = omega (arith, later) in
      let close : i < count = omega (arith, later, below) in
      unmarked words size other
      (ap (mark_at words) at ∙ mark_of_rest words place i (omega (arith, close, within)) ∙ ap (λ b. eqb b 1) (empty i close))
]

-- the next mark is in the word of the place
record IsNext (words : List ℕ) (size from place : ℕ) : Type 0 where
  marked : mark_at words place ≡ true
  none_before : NoneSet (marks_of words size) from place

next_in_word : (words : List ℕ) (size from place : ℕ) → get_or words (place / 64) 0 < 2 ^ 64 → 0 < rest_at words place
    → NoneSet (marks_of words size) from place → IsNext words size from (next_at words place)
next_in_word words size from place small some before =
    let word = get_or words (place / 64) 0 in
    let rest = rest_at words place in
    let count = trailing_zeros w64 rest in
    let smaller = div-le_self word (2 ^ (place % 64)) in
    let lowest = bit_at-trailing_zeros w64 rest some (omega (arith, smaller, small)) in
    let within : place % 64 + count < 64 = elim (cases_lt (place % 64 + count) 64) [
      | inl close ↦ close
      | inr far ↦
          let none = bit_at_above word 64 (place % 64 + count) small far in
          let one = bit_of_rest word (place % 64) count in
          absurd (omega (arith, none, one, lowest.1))
    ] in
    record {
      marked = mark_of_rest words place count within ∙ ap (λ b. eqb b 1) lowest.1;
      none_before = none_further words size from place count (omega (arith, within)) lowest.2 before;
    }

-- what is known of the words while they are gone over, of which the places before one are done
pub record Goes (words : List ℕ) (size : ℕ) (marks : List Bool) (from to place : ℕ) : Type 0 where
  pub seen : marks_of words size ≡ marks
  pub ends : to ≤ length marks
  pub least : from ≤ place
  pub before : NoneSet marks from place
  pub inside : place / 64 < length words
  pub small : (i : ℕ) → i < length words → get_or words i 0 < 2 ^ 64

pub goes_on : (words items : List ℕ) (size : ℕ) (marks : List Bool) (from to place : ℕ) → words ≡ items → size ≤ 64 * length items → marks_of items size ≡ marks
    → to ≤ length marks → place < to → (from ≤ place) × NoneSet marks from place × ((i : ℕ) → i < length words → get_or words i 0 < 2 ^ 64)
    → Goes words size marks from to place
goes_on words items size marks from to place same covered seen ends early kept = record {
  seen = ap (λ ws. marks_of ws size) same ∙ seen;
  ends = ends;
  least = kept.0;
  before = kept.1;
  inside = rw same (word_listed items size place covered (viewed_below items size place marks seen (omega (arith, early, ends))));
  small = kept.2;
}

found : (words : List ℕ) (size : ℕ) (marks : List Bool) (from to place : ℕ) → Goes words size marks from to place → 0 < rest_at words place
    → IsNext words size from (next_at words place)
found words size marks from to place goes some =
    next_in_word words size from place (goes.small (place / 64) goes.inside) some (subst (λ ms. NoneSet ms from place) (sym goes.seen) goes.before)

pub first_found : (words : List ℕ) (size : ℕ) (marks : List Bool) (from to place : ℕ) → Goes words size marks from to place → 0 < rest_at words place
    → next_at words place < to → IsFirstSet marks from to (next_at words place)
first_found words size marks from to place goes some early =
    let next = found words size marks from to place goes some in
    let first = next_at words place in
    let below = viewed_below words size first marks goes.seen (omega (arith, early, goes.ends)) in
    record {
      lowest = omega (arith, goes.least);
      below = early;
      marked = ap (λ ms. get_or ms first false) (sym goes.seen) ∙ mark_is words size first false below ∙ next.marked;
      none_before = subst (λ ms. NoneSet ms from first) goes.seen next.none_before;
    }

pub none_found : (words : List ℕ) (size : ℕ) (marks : List Bool) (from to place : ℕ) → Goes words size marks from to place → 0 < rest_at words place
    → to ≤ next_at words place → NoneSet marks from to
none_found words size marks from to place goes some late other least below =
    let next = found words size marks from to place goes some in
    subst (λ ms. NoneSet ms from (next_at words place)) goes.seen next.none_before other least (omega (arith, below, late))

-- a word with no further mark
pub word_done : (words : List ℕ) (size : ℕ) (marks : List Bool) (from to place : ℕ) → Goes words size marks from to place → rest_at words place ≡ 0
    → NoneSet marks from ((place / 64 + 1) * 64)
word_done words size marks from to place goes none =
    let before = subst (λ ms. NoneSet ms from place) (sym goes.seen) goes.before in
    let further =
    none_further words size from place (64 - place % 64) (omega arith) (λ i close. ap (λ rest. bit_at rest i) none ∙ bit_at-zero i) before in
    let end : place + (64 - place % 64) ≡ (place / 64 + 1) * 64 = omega arith in
    subst (λ k. NoneSet marks from k) end (subst (λ ms. NoneSet ms from (place + (64 - place % 64))) goes.seen further)
