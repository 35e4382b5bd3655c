-- What the calls of a table of open tuples do to those in play for a column.
use Rattle.std.proofs.Common.{◌≡◌, ◌≢◌, ℕ, zero, suc, ◌+◌, ◌≤◌, Bool, true, false, cond, ◌&&◌, ◌||◌, not, List, [], ◌∷◌, ◌++◌, map, length, filter}
use Rattle.std.proofs.Common.{flat_map, find, Option, Some, None, set, nat_eq, nat_lt, All, ◌∙◌, sym, ap, subst, refl, arith}
use Rattle.std.specs.Prelude.{slice_get}
use Rattle.std.specs.Option.{option_map_or}
use Rattle.std.specs.List.{last_or, range_with_len}
use Rattle.std.proofs.lemmas.Bool.Decides.{nat_tests}
use Rattle.std.proofs.lemmas.List.{length-map}
use Rattle.std.proofs.lemmas.List.Elements.{All-nil, All-cons, All-append, All-head, All-tail, All-weaker, All-filter}
use Rattle.std.proofs.Math.Bool.{and-false, or-true}
use Rattle.uncovered_table.proofs.BitLemmas.{same_places}
use Rattle.value_text.proofs.ListLemmas.{filter_same, filter-filter, filter_swap, filter_all, filter-map}
use Rattle.cov_model.specs.declared.slice.Slice.{Slice}
use Rattle.cov_model.specs.believed.Sound.{ModelView}
use Rattle.cov_model.specs.believed.Rows.{contains, with_value}
use Rattle.definitions.specs.believed.Demand.{is_among, demanded_sets, tuples_in}
use Rattle.definitions.specs.believed.Completion.{column_order}
use Rattle.definitions.specs.believed.Growth.{tuples_in_play}
use Rattle.definitions.specs.SliceRows.{IsSliceOf}
use Rattle.uncovered_table.specs.Open.{OpenView, all_open, closed, is_after, is_held, row_closed, gain, next_open}
use Rattle.uncovered_table.specs.Places.{set_at, tuple_at, slice_start, places_in, slice_places, is_in_play, is_behind, is_place}
use Rattle.ipog_grow.specs.Growing.{open_places, open_tuples, Rises}
use Rattle.ipog_grow.proofs.Lists.{find-filter}
use Rattle.ipog_grow.proofs.Places.{places_in_play}

-- at first all tuples in play are open
pub open_tuples-all_open : (m : ModelView) (slice : Slice) (p : ℕ) → IsSliceOf m slice → open_tuples (all_open m slice) p ≡ tuples_in_play m slice p
open_tuples-all_open m slice p is = places_in_play m slice p is

-- the gain counts those that the row with the value contains
pub gain-counts : (table : OpenView) (cells : List (Option ℕ)) (p v : ℕ)
    → gain table cells p v ≡ length (filter (contains (with_value cells p v)) (open_tuples table p))
gain-counts table cells p v =
    ap length (sym (filter-filter (λ place. contains (with_value cells p v) (tuple_at table.model place)) (is_in_play table.model table.slice p) table.places))
    ∙ sym (length-map (filter (λ place. contains (with_value cells p v) (tuple_at table.model place)) (open_places table p)) (tuple_at table.model))
    ∙ ap length (sym (filter-map (contains (with_value cells p v)) (tuple_at table.model) (open_places table p)))

-- a row closes those that it contains
pub open_places-row_closed : (table : OpenView) (p : ℕ) (cells : List (Option ℕ))
    → open_places (row_closed table p cells) p ≡ filter (λ place. not (contains cells (tuple_at table.model place))) (open_places table p)
open_places-row_closed table p cells =
    filter-filter (is_in_play table.model table.slice p) (λ place. not (is_held table p cells place)) table.places
    ∙ filter_same (λ place. not (is_held table p cells place) && is_in_play table.model table.slice p place)
    (λ place. is_in_play table.model table.slice p place && not (contains cells (tuple_at table.model place))) table.places
    (λ place. at (is_in_play table.model table.slice p place) (contains cells (tuple_at table.model place)))
    ∙ sym (filter-filter (λ place. not (contains cells (tuple_at table.model place))) (is_in_play table.model table.slice p) table.places)
  where
    at : (a b : Bool) → (not (a && b) && a) ≡ (a && not b)
    at true true = refl
    at true false = refl
    at false b = refl

pub open_tuples-row_closed : (table : OpenView) (p : ℕ) (cells : List (Option ℕ))
    → open_tuples (row_closed table p cells) p ≡ filter (λ tuple. not (contains cells tuple)) (open_tuples table p)
open_tuples-row_closed table p cells =
    ap (map (tuple_at table.model)) (open_places-row_closed table p cells)
    ∙ sym (filter-map (λ tuple. not (contains cells tuple)) (tuple_at table.model) (open_places table p))

-- a place is in play for one column at most
in_play-once : (m : ModelView) (slice : Slice) (p q : ℕ) (place : ℕ × ℕ) → q ≢ p → is_in_play m slice q place ≡ true → is_in_play m slice p place ≡ false
in_play-once m slice p q place apart held = at (last_or None (filter (is_among (set_at m place.0)) (column_order m slice))) held
  where
    at : (o : Option ℕ) → option_map_or (λ r. nat_eq r q) o false ≡ true → option_map_or (λ r. nat_eq r p) o false ≡ false
    at None h = refl
    at (Some r) h = grind (arith, nat_tests)

-- and leaves those of other columns as they are
pub open_places-row_closed_other : (table : OpenView) (p q : ℕ) (cells : List (Option ℕ)) → q ≢ p → open_places (row_closed table p cells) q
    ≡ open_places table q
open_places-row_closed_other table p q cells apart =
    filter-filter (is_in_play table.model table.slice q) (λ place. not (is_held table p cells place)) table.places
    ∙ filter_same (λ place. not (is_held table p cells place) && is_in_play table.model table.slice q place) (is_in_play table.model table.slice q) table.places
    (λ place. at place (is_in_play table.model table.slice q place) refl)
  where
    at : (place : ℕ × ℕ) (b : Bool) → is_in_play table.model table.slice q place ≡ b
        → (not (is_in_play table.model table.slice p place && contains cells (tuple_at table.model place)) && b) ≡ b
    at place true is =
        ap (λ (a : Bool). not (a && contains cells (tuple_at table.model place)) && true) (in_play-once table.model table.slice p q place apart is)
    at place false is = and-false (not (is_held table p cells place))

-- closing a tuple of a column leaves those of other columns as they are
pub open_places-closed_other : (table : OpenView) (p q : ℕ) (place : ℕ × ℕ) → q ≢ p → is_in_play table.model table.slice p place ≡ true
    → open_places (closed table place) q ≡ open_places table q
open_places-closed_other table p q place apart own =
    filter-filter (is_in_play table.model table.slice q) (λ other. not (is_place place other)) table.places
    ∙ filter_same (λ other. not (is_place place other) && is_in_play table.model table.slice q other) (is_in_play table.model table.slice q) table.places
    (λ other. at other (is_place place other) refl)
  where
    at : (other : ℕ × ℕ) (b : Bool) → is_place place other ≡ b → (not b && is_in_play table.model table.slice q other)
        ≡ is_in_play table.model table.slice q other
    at other true is =
        sym (in_play-once table.model table.slice q p other (λ e. apart (sym e))
        (ap (is_in_play table.model table.slice p) (sym (same_places place other is)) ∙ own))
    at other false is = refl

behind_other : (a b : ℕ × ℕ) → is_behind a b ≡ true → not (is_place a b) ≡ true
behind_other a b behind = by_numbers a.0 a.1 b.0 b.1 behind
  where
    by_numbers : (i j k l : ℕ) → (nat_lt i k || (nat_eq i k && nat_lt j l)) ≡ true → not (nat_eq i k && nat_eq j l) ≡ true
    by_numbers i j k l h = grind (arith, nat_tests)

pub Rises-filter : (p : ℕ × ℕ → Bool) (places : List (ℕ × ℕ)) → Rises places → Rises (filter p places)
Rises-filter p [] rises = tt
Rises-filter p (place ∷ places) rises = at (p place) (Rises-filter p places rises.1)
  where
    at : (b : Bool) → Rises (filter p places) → Rises (cond b (place ∷ filter p places) (filter p places))
    at true later = (All-filter p (λ other. is_behind place other ≡ true) places rises.0, later)
    at false later = later

-- closing the first open tuple of a column leaves the others
pub open_places-closed_first : (table : OpenView) (p : ℕ) (place : ℕ × ℕ) (rest : List (ℕ × ℕ)) → Rises table.places → open_places table p ≡ place ∷ rest
    → open_places (closed table place) p ≡ rest
open_places-closed_first table p place rest rises is =
    let first : nat_eq place.0 place.0 ≡ true = grind (arith, nat_tests) in
    let second : nat_eq place.1 place.1 ≡ true = grind (arith, nat_tests) in
    let own : is_place place place ≡ true = ap (λ (b : Bool). b && nat_eq place.1 place.1) first ∙ second in
    let behind : All (λ other. is_behind place other ≡ true) rest =
    (subst Rises is (Rises-filter (is_in_play table.model table.slice p) table.places rises)).0 in
    filter_swap (is_in_play table.model table.slice p) (λ other. not (is_place place other)) table.places
    ∙ ap (filter (λ other. not (is_place place other))) is
    ∙ ap (λ (b : Bool). cond (not b) (place ∷ filter (λ other. not (is_place place other)) rest) (filter (λ other. not (is_place place other)) rest)) own
    ∙ filter_all (λ other. not (is_place place other)) rest (All-weaker (λ other. is_behind place other ≡ true) (λ other. not (is_place place other) ≡ true)
    (λ other h. behind_other place other h) rest behind)

-- the next open tuple after a place that all open ones stand behind is the first
pub next_open-first : (table : OpenView) (p : ℕ) (from : Option (ℕ × ℕ)) → All (λ place. is_after from place ≡ true) (open_places table p)
    → next_open table p from ≡ slice_get (open_places table p) 0
next_open-first table p from all = find-filter (is_in_play table.model table.slice p) (is_after from) table.places ∙ first (open_places table p) all
  where
    first : (places : List (ℕ × ℕ)) → All (λ place. is_after from place ≡ true) places → find (is_after from) places ≡ slice_get places 0
    first [] all = refl
    first (place ∷ places) all = ap (λ (b : Bool). cond b (Some place) (find (is_after from) places))
        (All-head (λ other. is_after from other ≡ true) place places all)

Rises-append : (xs ys : List (ℕ × ℕ)) → Rises xs → Rises ys → All (λ x. All (λ y. is_behind x y ≡ true) ys) xs → Rises (xs ++ ys)
Rises-append [] ys first second between = second
Rises-append (x ∷ xs) ys first second between = (
  All-append (λ y. is_behind x y ≡ true) xs ys first.0 (All-head (λ a. All (λ y. is_behind a y ≡ true) ys) x xs between),
  Rises-append xs ys first.1 second (All-tail (λ a. All (λ y. is_behind a y ≡ true) ys) x xs between),
)

-- the places of one set rise

of_set : (set a n : ℕ) → All (λ (place : ℕ × ℕ). (place.0 ≡ set) × (a ≤ place.1)) (map (λ rank. (set, rank)) (range_with_len a n))
of_set set a zero = All-nil (λ (place : ℕ × ℕ). (place.0 ≡ set) × (a ≤ place.1))
of_set set a (suc n) =
    All-cons (λ (place : ℕ × ℕ). (place.0 ≡ set) × (a ≤ place.1)) (set, a) (map (λ rank. (set, rank)) (range_with_len (a + 1) n)) (refl, omega arith)
    (All-weaker (λ (place : ℕ × ℕ). (place.0 ≡ set) × (a + 1 ≤ place.1)) (λ (place : ℕ × ℕ). (place.0 ≡ set) × (a ≤ place.1))
    (λ place h. (h.0, omega (arith, h.1)))
    (map (λ rank. (set, rank)) (range_with_len (a + 1) n)) (of_set set (a + 1) n))

rises_set : (set a n : ℕ) → Rises (map (λ rank. (set, rank)) (range_with_len a n))
rises_set set a zero = tt
rises_set set a (suc n) = (
  All-weaker (λ (place : ℕ × ℕ). (place.0 ≡ set) × (a + 1 ≤ place.1)) (λ other. is_behind (set, a) other ≡ true) (λ other h. behind other h.0 h.1)
      (map (λ rank. (set, rank)) (range_with_len (a + 1) n)) (of_set set (a + 1) n),
  rises_set set (a + 1) n,
)
  where
    behind : (other : ℕ × ℕ) → other.0 ≡ set → a + 1 ≤ other.1 → is_behind (set, a) other ≡ true
    behind other same above =
        let first : nat_eq set other.0 ≡ true = grind (arith, nat_tests) in
        let second : nat_lt a other.1 ≡ true = grind (arith, nat_tests) in
        ap (λ (b : Bool). nat_lt set other.0 || (b && nat_lt a other.1)) first ∙ ap (λ (b : Bool). nat_lt set other.0 || b) second
        ∙ or-true (nat_lt set other.0)

from_set : (m : ModelView) (slice : Slice) (a n : ℕ) → All (λ (place : ℕ × ℕ). a ≤ place.0) (flat_map (places_in m slice) (range_with_len a n))
from_set m slice a zero = All-nil (λ (place : ℕ × ℕ). a ≤ place.0)
from_set m slice a (suc n) =
    All-append (λ (place : ℕ × ℕ). a ≤ place.0) (places_in m slice a) (flat_map (places_in m slice) (range_with_len (a + 1) n))
    (All-weaker (λ (place : ℕ × ℕ). (place.0 ≡ a) × (slice_start m (set_at m a) slice ≤ place.1)) (λ (place : ℕ × ℕ). a ≤ place.0)
    (λ place h. omega (arith, h.0)) (places_in m slice a)
    (of_set a (slice_start m (set_at m a) slice) (length (tuples_in m (set_at m a) slice))))
    (All-weaker (λ (place : ℕ × ℕ). a + 1 ≤ place.0) (λ (place : ℕ × ℕ). a ≤ place.0) (λ place h. omega (arith, h))
    (flat_map (places_in m slice) (range_with_len (a + 1) n)) (from_set m slice (a + 1) n))

rises_from : (m : ModelView) (slice : Slice) (a n : ℕ) → Rises (flat_map (places_in m slice) (range_with_len a n))
rises_from m slice a zero = tt
rises_from m slice a (suc n) =
    Rises-append (places_in m slice a) (flat_map (places_in m slice) (range_with_len (a + 1) n))
    (rises_set a (slice_start m (set_at m a) slice) (length (tuples_in m (set_at m a) slice)))
    (rises_from m slice (a + 1) n)
    (All-weaker (λ (place : ℕ × ℕ). (place.0 ≡ a) × (slice_start m (set_at m a) slice ≤ place.1))
    (λ x. All (λ y. is_behind x y ≡ true) (flat_map (places_in m slice) (range_with_len (a + 1) n)))
    (λ x h. All-weaker (λ (place : ℕ × ℕ). a + 1 ≤ place.0) (λ y. is_behind x y ≡ true) (λ y above. behind x y h.0 above)
    (flat_map (places_in m slice) (range_with_len (a + 1) n)) (from_set m slice (a + 1) n))
    (places_in m slice a) (of_set a (slice_start m (set_at m a) slice) (length (tuples_in m (set_at m a) slice))))
  where
    behind : (x y : ℕ × ℕ) → x.0 ≡ a → a + 1 ≤ y.0 → is_behind x y ≡ true
    behind x y same above = let test : nat_lt x.0 y.0 ≡ true = grind (arith, nat_tests) in ap (λ (b : Bool). b || (nat_eq x.0 y.0 && nat_lt x.1 y.1)) test

-- the places of a slice rise
pub slice_places-rise : (m : ModelView) (slice : Slice) → Rises (slice_places m slice)
slice_places-rise m slice = rises_from m slice 0 (length (demanded_sets m))
