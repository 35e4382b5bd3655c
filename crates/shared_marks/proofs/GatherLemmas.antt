-- Bits that are gathered in words before the places of the words are marked.
use Rattle.std.proofs.Common.{inl, inr, ◌≡◌, ℕ, ◌+◌, ◌-◌, ◌*◌, ◌/◌, ◌%◌, ◌<◌, ◌≤◌, Bool, true, false, ◌&&◌, ◌||◌, List, [], ◌∷◌, length, get_or, replicate, take, eqb, ◌∙◌, refl, sym, ap, arith, subst}
use Rattle.std.specs.Int.{bit_at}
use Rattle.std.specs.Prelude.{◌==◌, nat_le, nat_lt}
use Rattle.std.proofs.Math.Bool.{and-or_distrib_left, or_assoc, or_comm, or-false}
use Rattle.std.proofs.lemmas.Bool.{and_left, and_right, cases_eq, cases_lt, eq-eqb, le-leb, le-ltb, lt-leb, lt-ltb, ne_eqb}
use Rattle.std.proofs.lemmas.List.{get_or-replicate, get_or-take, get_or_past, length-replicate, length-take}
use Rattle.std.proofs.lemmas.List.Folds.{list_any_more}
use Rattle.std.proofs.lemmas.Nat.Bits.{bit_at-zero}
use Rattle.bit_table.specs.Words.{mark_at}
use Rattle.bit_table.proofs.MarkLemmas.{no_marks, unmarked_word}
use Rattle.shared_marks.specs.Adding.{Marks, are_behind, is_in_words, is_of_word}
use Rattle.shared_marks.specs.Seats.{SeatView, marking, with_holding}
use Rattle.shared_marks.specs.Steps.{has_bit}
use Rattle.shared_marks.proofs.AddingLemmas.{marks_one, marks_then}

-- a word of zeros has no bit
pub zero_none : (word place : ℕ) → is_of_word word 0 place ≡ false
zero_none word place = and_right (place / 64 == word) (has_bit 0 place) (ap (λ b. eqb b 1) (bit_at-zero (place % 64)))

-- one rank more whose bit is set
pub bit_more : (before now next : List ℕ) (base i d : ℕ) (ranks : List ℕ) → i < length ranks
    → ((place : ℕ) → mark_at now place ≡ (mark_at before place || are_behind base (take i ranks) place))
    → ((place : ℕ) → mark_at next place ≡ (base + get_or ranks i d == place || mark_at now place))
    → (place : ℕ) → mark_at next place ≡ (mark_at before place || are_behind base (take (i + 1) ranks) place)
bit_more before now next base i d ranks within are more place =
    more place ∙ ap (λ t. base + get_or ranks i d == place || t) (are place)
    ∙ or_comm (base + get_or ranks i d == place) (mark_at before place || are_behind base (take i ranks) place)
    ∙ or_assoc (mark_at before place) (are_behind base (take i ranks) place) (base + get_or ranks i d == place)
    ∙ ap (λ t. mark_at before place || t) (sym (list_any_more (λ rank. base + rank == place) ranks i d within))

-- of words that stand for those of a table from a given one on: none, and one more
pub words_begin : (first : ℕ) (words : List ℕ) (place : ℕ) → (nat_lt place (64 * (first + 0)) && is_in_words first words place) ≡ false
words_begin first words place = elim (cases_lt place (64 * first)) [
  | inl before ↦
      and_right (nat_lt place (64 * (first + 0))) (is_in_words first words place)
      (and_left (nat_le (64 * first) place) (mark_at words (place - 64 * first)) (lt-leb (64 * first) place before))
  | inr past ↦ and_left (nat_lt place (64 * (first + 0))) (is_in_words first words place) (le-ltb place (64 * (first + 0)) (omega (arith, past)))
]

pub words_more : (first at place : ℕ) (words : List ℕ)
    → ((nat_lt place (64 * (first + at)) && is_in_words first words place) || is_of_word (first + at) (get_or words at 0) place)
    ≡ (nat_lt place (64 * (first + (at + 1))) && is_in_words first words place)
words_more first at place words = elim (cases_lt place (64 * (first + at))) [
  | inl before ↦
      let apart : (place / 64 == first + at) ≡ false = ne_eqb (place / 64) (first + at) (λ same. omega (arith, same, before)) in
      let here = lt-ltb place (64 * (first + at)) before in
      let there = lt-ltb place (64 * (first + (at + 1))) (omega (arith, before)) in
      rw (here, there, apart) (or-false (is_in_words first words place))
  | inr from ↦
      let here = le-ltb place (64 * (first + at)) from in
      elim (cases_lt place (64 * (first + (at + 1)))) [
        | inl inside ↦
            let there = lt-ltb place (64 * (first + (at + 1))) inside in
            let own : (place / 64 == first + at) ≡ true = eq-eqb (place / 64) (first + at) (omega (arith, from, inside)) in
            let least : nat_le (64 * first) place ≡ true = le-leb (64 * first) place (omega (arith, from)) in
            let word : at ≡ (place - 64 * first) / 64 = omega (arith, from, inside) in
            let bit : place % 64 ≡ (place - 64 * first) % 64 = omega (arith, from) in
            rw (here, there, own, least) (ap (λ w. eqb (bit_at (get_or words w 0) (place % 64)) 1) word
            ∙ ap (λ b. eqb (bit_at (get_or words ((place - 64 * first) / 64) 0) b) 1) bit)
        | inr past ↦
            let there = le-ltb place (64 * (first + (at + 1))) past in
            let apart : (place / 64 == first + at) ≡ false = ne_eqb (place / 64) (first + at) (λ same. omega (arith, same, past)) in
            rw (here, there, apart) refl
      ]
]

pub words_end : (first at place : ℕ) (words : List ℕ) → length words ≤ at
    → (nat_lt place (64 * (first + at)) && is_in_words first words place) ≡ is_in_words first words place
words_end first at place words all = elim (cases_lt place (64 * (first + at))) [
  | inl before ↦ ap (λ t. t && is_in_words first words place) (lt-ltb place (64 * (first + at)) before)
  | inr past ↦
      and_left (nat_lt place (64 * (first + at))) (is_in_words first words place) (le-ltb place (64 * (first + at)) past)
      ∙ sym (and_right (nat_le (64 * first) place) (mark_at words (place - 64 * first))
      (unmarked_word (get_or words ((place - 64 * first) / 64) 0) ((place - 64 * first) % 64) (get_or_past words ((place - 64 * first) / 64) 0 (omega (arith, all, past)))))
]

-- places behind a base are places behind what is left of it in its word
pub behind_moved : (first base whole place : ℕ) (ranks : List ℕ) → whole ≡ 64 * first + base
    → (nat_le (64 * first) place && are_behind base ranks (place - 64 * first)) ≡ are_behind whole ranks place
behind_moved first base whole place [] is = and_right (nat_le (64 * first) place) false refl
behind_moved first base whole place (rank ∷ ranks) is =
    and-or_distrib_left (nat_le (64 * first) place) (base + rank == place - 64 * first) (are_behind base ranks (place - 64 * first))
    ∙ ap (λ t. t || (nat_le (64 * first) place && are_behind base ranks (place - 64 * first))) one
    ∙ ap (λ t. whole + rank == place || t) (behind_moved first base whole place ranks is)
  where
    one : (nat_le (64 * first) place && (base + rank == place - 64 * first)) ≡ (whole + rank == place)
    one = elim (cases_eq (whole + rank) place) [
      | inl same ↦
          let least = le-leb (64 * first) place (omega (arith, same, is)) in
          let own = eq-eqb (base + rank) (place - 64 * first) (omega (arith, same, is)) in
          rw (least, own) (sym (eq-eqb (whole + rank) place same))
      | inr apart ↦
          elim (cases_lt place (64 * first)) [
            | inl before ↦ and_left (nat_le (64 * first) place) (base + rank == place - 64 * first) (lt-leb (64 * first) place before)
            | inr from ↦
                and_right (nat_le (64 * first) place) (base + rank == place - 64 * first)
                (ne_eqb (base + rank) (place - 64 * first) (λ same. apart (omega (arith, same, is, from))))
          ]
          ∙ sym (ne_eqb (whole + rank) place apart)
    ]

gathered_at : (base place : ℕ) (ranks words : List ℕ) → ((p : ℕ) → mark_at words p ≡ are_behind (base % 64) ranks p)
    → is_in_words (base / 64) words place ≡ are_behind base ranks place
gathered_at base place ranks words each =
    ap (λ t. nat_le (64 * (base / 64)) place && t) (each (place - 64 * (base / 64))) ∙ behind_moved (base / 64) (base % 64) base place ranks (omega arith)

pub gathered : (base place : ℕ) (ranks zeros words : List ℕ) (count : ℕ) → zeros ≡ replicate count 0
    → ((p : ℕ) → mark_at words p ≡ (mark_at zeros p || are_behind (base % 64) ranks p)) → is_in_words (base / 64) words place ≡ are_behind base ranks place
gathered base place ranks zeros words count none each =
    gathered_at base place ranks words (λ p.
    each p ∙ ap (λ zs. mark_at zs p || are_behind (base % 64) ranks p) none ∙ ap (λ t. t || are_behind (base % 64) ranks p) (no_marks count p))

pub flagged : (base place : ℕ) (ranks words : List ℕ) (clear flags : List Bool) → ((p : ℕ) → get_or clear p false ≡ false)
    → ((p : ℕ) → get_or flags p false ≡ (get_or clear p false || are_behind (base % 64) ranks p)) → ((p : ℕ) → mark_at words p ≡ get_or flags p false)
    → is_in_words (base / 64) words place ≡ are_behind base ranks place
flagged base place ranks words clear flags none each packed =
    gathered_at base place ranks words (λ p. packed p ∙ each p ∙ ap (λ t. t || are_behind (base % 64) ranks p) (none p))

-- no flag of some that are clear is set, nor is one behind them
pub none_set : (count many p : ℕ) → get_or (take count (replicate many false)) p false ≡ false
none_set count many p = elim (cases_lt p count) [
  | inl before ↦
      get_or-take count (replicate many false) p false before ∙ elim (cases_lt p many) [
        | inl inside ↦ get_or-replicate many p false false inside
        | inr past ↦ get_or_past (replicate many false) p false (omega (arith, length-replicate {A = Bool} many false, past))
      ]
  | inr past ↦ get_or_past (take count (replicate many false)) p false (omega (arith, length-take count (replicate many false), past))
]

-- one rank more whose place is marked
pub mark_more : (base i d : ℕ) (ranks : List ℕ) (start seat after : SeatView) → i < length ranks → Marks (are_behind base (take i ranks)) start seat
    → after ≡ with_holding seat (marking (base + get_or ranks i d) seat.holds) → Marks (are_behind base (take (i + 1) ranks)) start after
mark_more base i d ranks start seat after within so_far next =
    marks_then (are_behind base (take i ranks)) (λ place. base + get_or ranks i d == place) (are_behind base (take (i + 1) ranks)) start seat after so_far
    (subst (Marks (λ place. base + get_or ranks i d == place) seat) (sym next)
    (marks_one (λ place. base + get_or ranks i d == place) seat (base + get_or ranks i d) (λ place. refl)))
    (λ place. sym (list_any_more (λ rank. base + rank == place) ranks i d within))
