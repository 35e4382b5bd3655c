-- The steps of a seat at a table that other seats change meanwhile: at what moment each is taken, what it tells its caller,
-- and what one on a whole word marks. (This project's rule.)
use Rattle.std.specs.Prelude.{◌≡◌, ℕ, ◌*◌, ◌%◌, ◌==◌, ◌||◌, ◌++◌, Bool, true, List, Some, filter, slice_get, slice_set}
use Rattle.std.specs.Int.{bit_at}
use Rattle.std.specs.List.{range_with_len}
use Rattle.bit_table.specs.Words.{mark_at}
use Rattle.definitions.specs.believed.Demand.{is_among}
use Rattle.shared_marks.specs.declared.holding.Holding.{Holding}
use Rattle.shared_marks.specs.Facts.{IsKept}
use Rattle.shared_marks.specs.Seats.{IsWhole, is_held, testing}

-- one step at a table of so many words: it has some words and some seats, one of which holds the first of these; after the
-- step this seat holds the second, the other seats hold what they held, and the facts are kept. (A clause can't name the
-- words of a table that others change. That these are its words at the moment of the step is the promise of atomic_table,
-- which asks at each step that the rule of the table is kept.)
pub record IsStep (count : ℕ) (before after : Holding) : Type 0 where
  pub words : List ℕ
  pub words_after : List ℕ
  pub seats : List Holding
  pub number : ℕ
  pub facts : IsKept count words seats
  pub own : slice_get seats number ≡ Some before
  pub facts_after : IsKept count words_after (slice_set seats number after)

-- mark: the bit of the place is set, and every other bit stays
pub record IsMarkStep (count place : ℕ) (before after : Holding) : Type 0 where
  pub step : IsStep count before after
  pub marked : (other : ℕ) → mark_at step.words_after other ≡ (place == other || mark_at step.words other)

-- test: no word changes, and the answer is the bit of the place
pub record IsTestStep (count place : ℕ) (answer : Bool) (before after : Holding) : Type 0 where
  pub step : IsStep count before after
  pub same : step.words_after ≡ step.words
  pub read : mark_at step.words place ≡ answer

-- whether the bit of a place is set in its word
abbrev pub has_bit : ℕ → ℕ → Bool
has_bit word place = bit_at word (place % 64) == 1

-- a place whose bit is set in the word joins the seen ones; the bit of a place that the seat holds is set;
-- and where the seat has the whole share, the bit is set exactly if it marked the place
pub record IsTest (place word : ℕ) (before after : Holding) : Type 0 where
  pub seen : after ≡ testing place (has_bit word place) before
  pub held : is_held before place ≡ true → has_bit word place ≡ true
  pub whole : IsWhole before → has_bit word place ≡ is_among before.marked place

-- the places of a word whose bits a number has
abbrev pub places_of : ℕ → ℕ → List ℕ
places_of word bits = filter (has_bit bits) (range_with_len (64 * word) 64)

-- these places join the marked ones
abbrev pub marking_all : List ℕ → Holding → Holding
marking_all places held = record { marked = places ++ held.marked; seen = held.seen; parts = held.parts; halvings = held.halvings }
