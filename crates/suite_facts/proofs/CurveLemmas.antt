-- The places that a seat marked, counted, and those of the tuples that the first rows cover.
use Rattle.std.proofs.Common.{◌≡◌, ℕ, ◌+◌, ◌-◌, ◌<◌, ◌≤◌, ◌^◌, Bool, true, false, ◌||◌, cond, List, [], ◌∷◌, ◌++◌, map, take, length, get_or, Option, refl, ◌∙◌, sym, ap, subst, arith, zero-add}
use Rattle.std.specs.Prelude.{slice_range}
use Rattle.std.specs.Int.{from_bool}
use Rattle.std.specs.List.{filter, range_with_len}
use Rattle.std.proofs.lemmas.List.{map-append, same_lists, take_more}
use Rattle.std.proofs.lemmas.List.FromFn.{get_or-map-range_with_len, length-map-range_with_len}
use Rattle.atomic_table.specs.Seated.{TableId}
use Rattle.cov_model.specs.believed.Sound.{ModelView}
use Rattle.definitions.specs.believed.Demand.{demanded_sets, demanded_tuples, is_among, tuples_of}
use Rattle.definitions.specs.believed.Figures.{is_served, tests_of}
use Rattle.definitions.proofs.Totals.{count_flat}
use Rattle.shared_marks.specs.declared.holding.Holding.{Holding}
use Rattle.shared_marks.specs.Adding.{Marks}
use Rattle.shared_marks.specs.Seats.{IsWhole, SeatView, first_holding, testing, with_holding}
use Rattle.shared_marks.specs.Served.{is_served_at}
use Rattle.shared_marks.proofs.PlaceLemmas.{none_served, served_all, served_append}
use Rattle.shared_marks.proofs.RowLemmas.{range_joined}
use Rattle.value_text.proofs.ListLemmas.{count_marks}
use Rattle.suite_facts.specs.believed.Facts.{covered_of}
use Rattle.suite_facts.specs.Marked.{HoldsCovered, KeepsMarked}

-- a seat that looked at a place
tested : (place : ℕ) (is_set : Bool) (held : Holding)
    → ((testing place is_set held).marked ≡ held.marked) × ((testing place is_set held).parts ≡ held.parts) × ((testing place is_set held).halvings ≡ held.halvings)
tested place true held = (refl, refl, refl)
tested place false held = (refl, refl, refl)

pub looked : (place : ℕ) (is_set : Bool) (before after : SeatView) → after ≡ with_holding before (testing place is_set before.holds) → KeepsMarked before after
looked place is_set before after is =
    let same = tested place is_set before.holds in
    subst (KeepsMarked before) (sym is) (record { table = refl; marked = same.0; parts = same.1; halvings = same.2 })

-- a seat that did nothing, and one that did so twice
pub kept_none : (seat : SeatView) → KeepsMarked seat seat
kept_none seat = record { table = refl; marked = refl; parts = refl; halvings = refl }

pub kept_then : (before between after : SeatView) → KeepsMarked before between → KeepsMarked between after → KeepsMarked before after
kept_then before between after one two = record {
  table = two.table ∙ one.table;
  marked = two.marked ∙ one.marked;
  parts = two.parts ∙ one.parts;
  halvings = two.halvings ∙ one.halvings;
}

pub whole_kept : (before after : SeatView) → KeepsMarked before after → IsWhole before.holds → IsWhole after.holds
whole_kept before after kept whole = kept.parts ∙ whole ∙ sym (ap (λ n. 2 ^ n) kept.halvings)

pub from_is : (b : Bool) → from_bool b ≡ cond b 1 0
from_is true = refl
from_is false = refl

pub at_most_one : (b : Bool) → cond b 1 0 ≤ 1
at_most_one true = omega arith
at_most_one false = omega arith

-- what the first rows cover: none
pub covered_none : (m : ModelView) (rows : List (List (Option ℕ))) (table : TableId) (seat : SeatView) → seat ≡ record { table = table; holds = first_holding }
    → HoldsCovered m rows 0 table seat
covered_none m rows table seat is = subst (HoldsCovered m rows 0 table) (sym is) (record {
  table = refl;
  marked = λ place. sym (none_served m [] place refl);
  whole = refl;
})

-- the first rows and those behind them
range_first : (rows : List (List (Option ℕ))) (n : ℕ) → slice_range rows 0 n ≡ take n rows
range_first rows n = ap (λ k. take k rows) (no_less n)
  where
    no_less : (k : ℕ) → k - 0 ≡ k
    no_less k = omega arith

rows_joined : (rows : List (List (Option ℕ))) (from to : ℕ) → from ≤ to → take from rows ++ slice_range rows from to ≡ take to rows
rows_joined rows from to ordered =
    ap (λ first. first ++ slice_range rows from to) (sym (range_first rows from)) ∙ range_joined rows 0 from to (omega arith) ordered ∙ range_first rows to

-- some rows more
pub covered_more : (m : ModelView) (rows : List (List (Option ℕ))) (from to : ℕ) (table : TableId) (before after : SeatView) → from ≤ to
    → Marks (is_served_at m (slice_range rows from to)) before after → HoldsCovered m rows from table before → HoldsCovered m rows to table after
covered_more m rows from to table before after ordered marks so_far = record {
  table = marks.table ∙ so_far.table;
  marked = λ place.
      marks.marked place ∙ ap (λ b. b || is_served_at m (slice_range rows from to) place) (so_far.marked place)
      ∙ served_append m (take from rows) (slice_range rows from to) place
      ∙ ap (λ rs. is_served_at m rs place) (rows_joined rows from to ordered);
  whole = marks.parts ∙ so_far.whole ∙ sym (ap (λ n. 2 ^ n) marks.halvings);
}

-- once the places were counted
pub covered_looked : (m : ModelView) (rows : List (List (Option ℕ))) (first : ℕ) (table : TableId) (before after : SeatView) → KeepsMarked before after
    → HoldsCovered m rows first table before → HoldsCovered m rows first table after
covered_looked m rows first table before after kept so_far = record {
  table = kept.table ∙ so_far.table;
  marked = λ place. ap (λ places. is_among places place) kept.marked ∙ so_far.marked place;
  whole = whole_kept before after kept so_far.whole;
}

-- so many of the places are marked as demanded tuples are covered
pub covered_is_counted : (m : ModelView) (rows : List (List (Option ℕ))) (first places : ℕ) (table : TableId) (seat : SeatView) → places ≡ length (demanded_tuples m)
    → HoldsCovered m rows first table seat → length (filter (is_among seat.holds.marked) (range_with_len 0 places)) ≡ covered_of m (take first rows)
covered_is_counted m rows first places table seat as_many so_far =
    sym (count_marks marked (range_with_len 0 places))
    ∙ ap (λ ms. length (filter (λ mark. mark) ms)) (same_lists (map marked (range_with_len 0 places)) (map served (range_with_len 0 places))
    (length-map-range_with_len marked 0 places ∙ sym (length-map-range_with_len served 0 places)) (λ place other inside.
    let within : place < places = rw (length-map-range_with_len marked 0 places) at inside in
    get_or-map-range_with_len marked 0 places place place other within (zero-add place) ∙ so_far.marked place
    ∙ sym (get_or-map-range_with_len served 0 places place place other within (zero-add place))))
    ∙ ap (λ n. length (filter (λ mark. mark) (map served (range_with_len 0 n)))) as_many
    ∙ ap (λ ms. length (filter (λ mark. mark) ms)) (served_all m (take first rows))
    ∙ count_marks test (demanded_tuples m)
    ∙ count_flat test (tuples_of m) (demanded_sets m)
  where
    marked : ℕ → Bool
    marked = is_among seat.holds.marked

    served : ℕ → Bool
    served = is_served_at m (take first rows)

    test : List (Option ℕ) → Bool
    test = is_served m (tests_of m (take first rows))

-- one more number of a list that was gone over
pub map_step : {X : Type 0} (f : ℕ → X) (numbers : List ℕ) (i d : ℕ) → i < length numbers → map f (take (i + 1) numbers) ≡ map f (take i numbers) ++ f (get_or numbers i d) ∷ []
map_step f numbers i d within = ap (map f) (take_more numbers i d within) ∙ map-append f (take i numbers) (get_or numbers i d ∷ [])
