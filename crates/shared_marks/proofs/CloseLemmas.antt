-- The marks of a closed table.
use Rattle.std.proofs.Common.{◌≡◌, ℕ, ◌+◌, ◌<◌, Bool, true, false, List, length, get_or, set, map, ◌∙◌, sym, ap, arith, below_more}
use Rattle.std.specs.List.{range_with_len}
use Rattle.std.proofs.lemmas.Grind.{get_or-set_at}
use Rattle.std.proofs.lemmas.List.{get_or-set_other}
use mathlib.Core.Option.{some}
use lib.ListN.{get_elem?}
use Rattle.bit_table.specs.Words.{mark_at, marks_of}
use Rattle.bit_table.proofs.MarkLemmas.{mark_is, marks_long}
use Rattle.definitions.specs.believed.Demand.{is_among}
use Rattle.shared_marks.specs.declared.holding.Holding.{Holding}
use Rattle.shared_marks.specs.Facts.{IsKept}
use Rattle.shared_marks.specs.Seats.{IsWhole, is_held}
use Rattle.shared_marks.proofs.SeatLemmas.{at_place}
use Rattle.shared_marks.proofs.StepLemmas.{held_is_marked, whole_is_marked}

-- one more word is copied
pub copied_more : (into words : List ℕ) (i word : ℕ) → i < length into → get_elem? words i ≡ some word
    → ((k : ℕ) → k < i → get_or into k 0 ≡ get_or words k 0) → (k : ℕ) → k < i + 1 → get_or (set into i word) k 0 ≡ get_or words k 0
copied_more into words i word within here before =
    below_more (λ k. get_or (set into i word) k 0 ≡ get_or words k 0) i
    (λ k below. get_or-set_other into i k word 0 (λ same. omega (arith, below, same)) ∙ before k below)
    (get_or-set_at into i i word 0 (omega arith) within ∙ sym (at_place words i word 0 here).1)

-- the marks, where a seat has a view of the last words
pub record Closes (words : List ℕ) (size bits : ℕ) (held : Holding) : Type 0 where
  pub size_is : length (marks_of words size) ≡ bits
  pub held_are : (place : ℕ) → place < bits → is_held held place ≡ true → get_or (marks_of words size) place false ≡ true
  pub whole_is : IsWhole held → marks_of words size ≡ map (is_among held.marked) (range_with_len 0 bits)

pub closes : (count by size bits : ℕ) (words last : List ℕ) (seats : List Holding) (held : Holding) → IsKept count last seats
    → get_elem? seats by ≡ some held → last ≡ words → size ≡ bits → Closes words size bits held
closes count by size bits words last seats held kept here same as_many =
    record {
      size_is = marks_long words size ∙ as_many;
      held_are = λ place below holds.
          mark_is words size place false (omega (arith, below, as_many)) ∙ ap (λ ws. mark_at ws place) (sym same)
          ∙ held_is_marked count place by last seats held kept here holds;
      whole_is = λ whole.
          let each : mark_at words ≡ is_among held.marked =
          λ k place. (ap (λ ws. mark_at ws place) (sym same) ∙ whole_is_marked count place by last seats held kept here whole) k in
          ap (λ (test : ℕ → Bool). map test (range_with_len 0 size)) each ∙ ap (λ n. map (is_among held.marked) (range_with_len 0 n)) as_many;
    }
