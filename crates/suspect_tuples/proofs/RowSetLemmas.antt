-- Rows that are marked one after another.
use Rattle.std.proofs.Common.{inl, inr, ◌≡◌, ℕ, ◌+◌, ◌*◌, ◌/◌, ◌%◌, ◌<◌, ◌≤◌, true, false, ◌||◌, List, map, length, take, get_or, set, replicate, eqb, Option, refl, sym, ap, ◌∙◌, arith}
use Rattle.std.specs.Prelude.{nat_lt}
use Rattle.std.specs.Int.{bit_at}
use Rattle.std.specs.List.{count_by}
use Rattle.std.proofs.Math.Bool.{or-false}
use Rattle.std.proofs.lemmas.Bool.{cases_eq, cases_lt, eq-eqb, le-ltb, lt-ltb, ne_eqb, or_left, or_right}
use Rattle.std.proofs.lemmas.Grind.{get_or-set_at}
use Rattle.std.proofs.lemmas.List.{get_or-map, get_or-replicate, get_or-set_other, get_or_past, length-map, length-replicate, length-set, take_all}
use Rattle.std.proofs.lemmas.List.Folds.{list_any_more}
use Rattle.std.proofs.lemmas.Nat.Bits.{bit_at-zero}
use Rattle.bit_table.specs.Words.{mark_at, marks_of}
use Rattle.bit_table.proofs.MarkLemmas.{no_marks}
use Rattle.bit_table.proofs.SetLemmas.{is_there, marked, stays, with_bit}
use Rattle.definitions.specs.believed.Demand.{is_among}
use Rattle.suspect_tuples.specs.RowBits.{has_at}
use Rattle.suspect_tuples.specs.believed.Suspects.{has_tuple}

-- whether a row contains the tuple
pub has_here : (rows : List (List (Option ℕ))) (tuple : List (ℕ × ℕ)) (at : ℕ) (d : List (Option ℕ)) → at < length rows
    → has_at rows tuple at ≡ has_tuple tuple (get_or rows at d)
has_here rows tuple at d within = get_or-map (has_tuple tuple) rows at d false within

pub has_none : (rows : List (List (Option ℕ))) (tuple : List (ℕ × ℕ)) (at : ℕ) → length rows ≤ at → has_at rows tuple at ≡ false
has_none rows tuple at past = get_or_past (map (has_tuple tuple) rows) at false (omega (arith, length-map rows (has_tuple tuple), past))

-- a row that is marked beside others
pub mark_more : (words : List ℕ) (at word other : ℕ) → at / 64 < length words → word ≡ get_or words (at / 64) 0
    → mark_at (marked words at word) other ≡ (mark_at words other || eqb at other)
mark_more words at word other inside read = elim (cases_eq at other) [
  | inl same ↦
      ap (mark_at (marked words at word)) (sym same) ∙ is_there words at word inside
      ∙ sym (or_right (mark_at words other) (eqb at other) (eq-eqb at other same))
  | inr apart ↦
      stays words at word other inside read (λ same. apart (sym same))
      ∙ sym (ap (λ b. mark_at words other || b) (ne_eqb at other apart) ∙ or-false (mark_at words other))
]

-- the rows of the first of some numbers, and those before one, are marked
pub record MarkNumbers (numbers : List ℕ) (i count : ℕ) (words : List ℕ) : Type 0 where
  pub long : length words ≡ count / 64 + 1
  pub marks : (at : ℕ) → mark_at words at ≡ is_among (take i numbers) at

pub record MarkBefore (upto count : ℕ) (words : List ℕ) : Type 0 where
  pub long : length words ≡ count / 64 + 1
  pub marks : (at : ℕ) → mark_at words at ≡ nat_lt at upto

pub numbers_begin : (numbers : List ℕ) (count : ℕ) (words : List ℕ) → words ≡ replicate (count / 64 + 1) 0 → MarkNumbers numbers 0 count words
numbers_begin numbers count words are = record {
  long = ap length are ∙ length-replicate (count / 64 + 1) 0;
  marks = λ at. ap (λ ws. mark_at ws at) are ∙ no_marks (count / 64 + 1) at;
}

pub numbers_more : (numbers : List ℕ) (i d count : ℕ) (words after : List ℕ) → i < length numbers → MarkNumbers numbers i count words → length after ≡ length words
    → ((at : ℕ) → mark_at after at ≡ (mark_at words at || eqb (get_or numbers i d) at)) → MarkNumbers numbers (i + 1) count after
numbers_more numbers i d count words after within so_far long marks = record {
  long = long ∙ so_far.long;
  marks = λ at. marks at ∙ ap (λ b. b || eqb (get_or numbers i d) at) (so_far.marks at) ∙ sym (list_any_more (λ k. eqb k at) numbers i d within);
}

pub numbers_end : (numbers : List ℕ) (i count : ℕ) (words : List ℕ) → length numbers ≤ i → MarkNumbers numbers i count words
    → (at : ℕ) → mark_at words at ≡ is_among numbers at
numbers_end numbers i count words past so_far at = so_far.marks at ∙ ap (λ ns. is_among ns at) (take_all i numbers past)

pub before_begin : (count : ℕ) (words : List ℕ) → words ≡ replicate (count / 64 + 1) 0 → MarkBefore 0 count words
before_begin count words are = record {
  long = ap length are ∙ length-replicate (count / 64 + 1) 0;
  marks = λ at. ap (λ ws. mark_at ws at) are ∙ no_marks (count / 64 + 1) at ∙ sym (le-ltb at 0 (omega arith));
}

pub lt_more : (n k : ℕ) → (nat_lt k n || eqb n k) ≡ nat_lt k (n + 1)
lt_more n k = elim (cases_lt k n) [
  | inl below ↦ or_left (nat_lt k n) (eqb n k) (lt-ltb k n below) ∙ sym (lt-ltb k (n + 1) (omega (arith, below)))
  | inr above ↦ ap (λ b. b || eqb n k) (le-ltb k n above) ∙ elim (cases_eq n k) [
    | inl same ↦ eq-eqb n k same ∙ sym (lt-ltb k (n + 1) (omega (arith, same)))
    | inr apart ↦ ne_eqb n k apart ∙ sym (le-ltb k (n + 1) (omega (arith, above, apart)))
  ]
]

pub before_more : (upto count : ℕ) (words after : List ℕ) → MarkBefore upto count words → length after ≡ length words
    → ((at : ℕ) → mark_at after at ≡ (mark_at words at || eqb upto at)) → MarkBefore (upto + 1) count after
before_more upto count words after so_far long marks = record {
  long = long ∙ so_far.long;
  marks = λ at. marks at ∙ ap (λ b. b || eqb upto at) (so_far.marks at) ∙ lt_more upto at;
}
