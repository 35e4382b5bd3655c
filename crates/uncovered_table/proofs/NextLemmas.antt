-- The next open tuple, set by set.
use Rattle.std.proofs.Common.{inl, inr, ◌≡◌, ℕ, zero, suc, ◌+◌, ◌-◌, ◌^◌, ◌<◌, ◌≤◌, Bool, true, false, ◌&&◌, ◌||◌, List, [], ◌∷◌, Option}
use Rattle.std.proofs.Common.{Some, None, map, length, get_or, drop, nat_lt, ◌∙◌, refl, sym, subst, ap, arith}
use Rattle.std.specs.Prelude.{◌==◌, IfSome, find, nat_le, if◌then◌else◌}
use Rattle.std.specs.List.{filter, flat_map, list_any, range_with_len}
use Rattle.std.specs.List.Sorted.{IsNonDecreasingBy}
use Rattle.std.specs.Option.{option_or}
use Rattle.std.proofs.lemmas.Bool.{cases_eq, cases_lt, cases_Bool}
use Rattle.std.proofs.lemmas.Bool.Decides.{nat_tests}
use Rattle.std.proofs.lemmas.List.Folds.{find-append}
use Rattle.std.proofs.lemmas.List.Sums.{get_or-le-sum_by}
use Rattle.std.proofs.Math.Bool.{and-false}
use Rattle.bit_table.specs.Marks.{IsFirstSet, NoneSet}
use Rattle.cov_model.specs.declared.slice.Slice.{Slice}
use Rattle.cov_model.specs.believed.Sound.{ModelView}
use Rattle.definitions.specs.believed.Demand.{demanded_sets}
use Rattle.definitions.specs.SliceRows.{IsSliceOf}
use Rattle.tuple_index.specs.Kept.{IsKept}
use Rattle.tuple_index.specs.Places.{RisesFrom}
use Rattle.tuple_index.specs.Plan.{plan_of}
use Rattle.uncovered_table.specs.declared.block.Block.{Block}
use Rattle.uncovered_table.specs.Kept.{IsBlock}
use Rattle.uncovered_table.specs.Bits.{InPlay, first_bit, is_marked, marked, next_in, next_of, sets_in_play, skipped, tuple_count}
use Rattle.uncovered_table.specs.Open.{is_after, next_open}
use Rattle.uncovered_table.specs.Places.{ends_with_column, is_in_play, is_place, places_in, set_at, slice_places, slice_start}
use Rattle.uncovered_table.proofs.BitLemmas.{BitKnown, bit_known, bits_before, place_listed}
use Rattle.uncovered_table.proofs.ChoiceLemmas.{rises_passing}
use Rattle.uncovered_table.proofs.PlaceLemmas.{place_known}
use Rattle.uncovered_table.proofs.ColumnLemmas.{filter_no, filter_yes}
use Rattle.uncovered_table.proofs.GainLemmas.{in_play_with}

-- an item is found among those that pass
find_passing : {X : Type 0} (f g : X → Bool) (xs : List X) → find f (filter g xs) ≡ find (λ x. g x && f x) xs
find_passing f g [] = refl
find_passing f g (x ∷ xs) =
    elim (cases_Bool (g x)) [
      | inl passing ↦ ap (find f) (filter_yes g x xs passing) ∙ ap (λ o. if f x then Some x else o) (find_passing f g xs)
          ∙ ap (λ b. if b && f x then Some x else find (λ x. g x && f x) xs) (sym passing)
      | inr fails ↦ ap (find f) (filter_no g x xs fails) ∙ find_passing f g xs ∙ ap (λ b. if b && f x then Some x else find (λ x. g x && f x) xs) (sym fails)
    ]

-- of the places of a set none passes, or one is the first
none_found : (f : ℕ × ℕ → Bool) (set start i c : ℕ) → ((j : ℕ) → i ≤ j → j < i + c → f (set, start + j) ≡ false)
    → find f (map (λ rank. (set, rank)) (range_with_len (start + i) c)) ≡ None
none_found f set start i zero fails = refl
none_found f set start i (suc c) fails =
    let next : start + i + 1 ≡ start + (i + 1) = omega arith in
    ap (λ b. if b then Some (set, start + i) else find f (map (λ rank. (set, rank)) (range_with_len (start + i + 1) c))) (fails i (omega arith) (omega arith))
    ∙ ap (λ a. find f (map (λ rank. (set, rank)) (range_with_len a c))) next
    ∙ none_found f set start (i + 1) c (λ j least below. fails j (omega (arith, least)) (omega (arith, below)))

one_found : (f : ℕ × ℕ → Bool) (set start i c k : ℕ) → i ≤ k → k < i + c → f (set, start + k) ≡ true → ((j : ℕ) → i ≤ j → j < k → f (set, start + j) ≡ false)
    → find f (map (λ rank. (set, rank)) (range_with_len (start + i) c)) ≡ Some (set, start + k)
one_found f set start i zero k least below passing before = absurd (omega (arith, least, below))
one_found f set start i (suc c) k least below passing before =
    let next : start + i + 1 ≡ start + (i + 1) = omega arith in
    let later : Bool → Option (ℕ × ℕ) = λ b. if b then Some (set, start + i) else find f (map (λ rank. (set, rank)) (range_with_len (start + i + 1) c)) in
    elim (cases_eq i k) [
      | inl here ↦ ap later (ap (λ j. f (set, start + j)) here ∙ passing) ∙ ap (λ j. Some (set, start + j)) here
      | inr apart ↦
          ap later (before i (omega arith) (omega (arith, least, apart))) ∙ ap (λ a. find f (map (λ rank. (set, rank)) (range_with_len a c))) next
          ∙ one_found f set start (i + 1) c k (omega (arith, least, apart)) (omega (arith, below)) passing
          (λ j above less. before j (omega (arith, above)) less)
    ]

-- a place of a set stands behind another exactly if its number is not skipped
after_skipped : (from : Option (ℕ × ℕ)) (set start j : ℕ) → IfSome from (λ place. (place.0 ≤ set) × (place.0 ≡ set → start ≤ place.1))
    → is_after from (set, start + j) ≡ nat_le (skipped start from set) j
after_skipped None set start j known = let least : nat_le 0 j ≡ true = grind (arith, nat_tests) in sym least
after_skipped (Some place) set start j known =
    elim (cases_eq place.0 set) [
      | inl here ↦
          let test : (place.0 == set) ≡ true = grind (arith, nat_tests) in
          let less : nat_lt place.0 set ≡ false = grind (arith, nat_tests) in
          let offset : nat_lt place.1 (start + j) ≡ nat_le (place.1 - start + 1) j = past place.1 start j (known.1 here) in
          ap (λ b. b || ((place.0 == set) && nat_lt place.1 (start + j))) less ∙ ap (λ b. b && nat_lt place.1 (start + j)) test ∙ offset
          ∙ ap (λ b. nat_le (if b then place.1 - start + 1 else 0) j) (sym test)
      | inr apart ↦
          let test : (place.0 == set) ≡ false = grind (arith, nat_tests) in
          let below : place.0 < set = omega (arith, known.0, apart) in
          let less : nat_lt place.0 set ≡ true = grind (arith, nat_tests) in
          let least : nat_le 0 j ≡ true = grind (arith, nat_tests) in
          ap (λ b. b || ((place.0 == set) && nat_lt place.1 (start + j))) less ∙ sym least ∙ ap (λ b. nat_le (if b then place.1 - start + 1 else 0) j)
          (sym test)
    ]
  where
    past : (r start j : ℕ) → start ≤ r → nat_lt r (start + j) ≡ nat_le (r - start + 1) j
    past r start j least =
        elim (cases_lt r (start + j)) [
          | inl less ↦
              let first : nat_lt r (start + j) ≡ true = grind (arith, nat_tests) in
              let bound : r - start + 1 ≤ j = omega (arith, less, least) in
              let second : nat_le (r - start + 1) j ≡ true = grind (arith, nat_tests) in
              first ∙ sym second
          | inr most ↦
              let first : nat_lt r (start + j) ≡ false = grind (arith, nat_tests) in
              let bound : j < r - start + 1 = omega (arith, most, least) in
              let second : nat_le (r - start + 1) j ≡ false = grind (arith, nat_tests) in
              first ∙ sym second
        ]

-- what is known of the place behind which one looks
pub record IsFrom (m : ModelView) (slice : Slice) (set : ℕ) (from : Option (ℕ × ℕ)) : Type 0 where
  pub own : IfSome from (BitKnown m slice)
  pub least : IfSome from (λ place. place.0 ≤ set)

from_known : (m : ModelView) (slice : Slice) (set : ℕ) (from : Option (ℕ × ℕ)) → IsFrom m slice set from
    → IfSome from (λ place. (place.0 ≤ set) × (place.0 ≡ set → slice_start m (set_at m set) slice ≤ place.1))
from_known m slice set None known = tt
from_known m slice set (Some place) known = (known.least, λ here. subst (λ s. slice_start m (set_at m s) slice ≤ place.1) here known.own.least)

-- a place of a set passes exactly if its bit is set and its number is not skipped
passes_at : (m : ModelView) (slice : Slice) (bits : List Bool) (from : Option (ℕ × ℕ)) (set j : ℕ) → IsFrom m slice set from
    → (is_marked m slice bits (set, slice_start m (set_at m set) slice + j) && is_after from (set, slice_start m (set_at m set) slice + j))
    ≡ (get_or bits (first_bit m slice set + j) false && nat_le (skipped (slice_start m (set_at m set) slice) from set) j)
passes_at m slice bits from set j known =
    let start = slice_start m (set_at m set) slice in
    let offset : start + j - start ≡ j = omega arith in
    ap (λ k. get_or bits (first_bit m slice set + k) false && is_after from (set, start + j)) offset
    ∙ ap (λ b. get_or bits (first_bit m slice set + j) false && b) (after_skipped from set start j (from_known m slice set from known))

-- where no bit of a set is set from the first one on that is not skipped, no place is found
pub next_none : (m : ModelView) (slice : Slice) (bits : List Bool) (from : Option (ℕ × ℕ)) (set : ℕ) → IsFrom m slice set from
    → NoneSet bits (first_bit m slice set + skipped (slice_start m (set_at m set) slice) from set) (first_bit m slice set + tuple_count m slice set)
    → next_in m slice bits from set ≡ None
next_none m slice bits from set known none =
    let start = slice_start m (set_at m set) slice in
    let first = first_bit m slice set in
    let count = tuple_count m slice set in
    let f : ℕ × ℕ → Bool = λ place. is_marked m slice bits place && is_after from place in
    let plain : start ≡ start + 0 = omega arith in
    ap (λ a. find f (map (λ rank. (set, rank)) (range_with_len a count))) plain
    ∙ none_found f set start 0 count (λ j least below. passes_at m slice bits from set j known ∙ by_skip j (omega (arith, below)))
  where
    by_skip : (j : ℕ) → j < tuple_count m slice set
        → (get_or bits (first_bit m slice set + j) false && nat_le (skipped (slice_start m (set_at m set) slice) from set) j) ≡ false
    by_skip j below =
        let skip = skipped (slice_start m (set_at m set) slice) from set in
        elim (cases_lt j skip) [
          | inl less ↦
              let test : nat_le skip j ≡ false = grind (arith, nat_tests) in
              ap (λ b. get_or bits (first_bit m slice set + j) false && b) test ∙ and-false (get_or bits (first_bit m slice set + j) false)
          | inr most ↦ ap (λ b. b && nat_le skip j) (none (first_bit m slice set + j) (omega (arith, most)) (omega (arith, below)))
        ]

-- else the one of the first such bit
pub next_some : (m : ModelView) (slice : Slice) (bits : List Bool) (from : Option (ℕ × ℕ)) (set bit : ℕ) → IsFrom m slice set from
    → IsFirstSet bits (first_bit m slice set + skipped (slice_start m (set_at m set) slice) from set) (first_bit m slice set + tuple_count m slice set) bit
    → next_in m slice bits from set ≡ Some (set, slice_start m (set_at m set) slice + (bit - first_bit m slice set))
next_some m slice bits from set bit known found =
    let start = slice_start m (set_at m set) slice in
    let first = first_bit m slice set in
    let count = tuple_count m slice set in
    let skip = skipped start from set in
    let f : ℕ × ℕ → Bool = λ place. is_marked m slice bits place && is_after from place in
    let plain : start ≡ start + 0 = omega arith in
    let back : first + (bit - first) ≡ bit = omega (arith, found.lowest) in
    let test : nat_le skip (bit - first) ≡ true = (let least = found.lowest in grind (arith, nat_tests)) in
    let here : f (set, start + (bit - first)) ≡ true =
    passes_at m slice bits from set (bit - first) known ∙ ap (λ k. get_or bits k false && nat_le skip (bit - first)) back
    ∙ ap (λ b. b && nat_le skip (bit - first)) found.marked ∙ test in
    ap (λ a. find f (map (λ rank. (set, rank)) (range_with_len a count))) plain
    ∙ one_found f set start 0 count (bit - first) (omega arith) (omega (arith, found.lowest, found.below)) here
    (λ j least below. passes_at m slice bits from set j known ∙ by_skip j below)
  where
    by_skip : (j : ℕ) → j < bit - first_bit m slice set
        → (get_or bits (first_bit m slice set + j) false && nat_le (skipped (slice_start m (set_at m set) slice) from set) j) ≡ false
    by_skip j below =
        let skip = skipped (slice_start m (set_at m set) slice) from set in
        elim (cases_lt j skip) [
          | inl less ↦
              let test : nat_le skip j ≡ false = grind (arith, nat_tests) in
              ap (λ b. get_or bits (first_bit m slice set + j) false && b) test ∙ and-false (get_or bits (first_bit m slice set + j) false)
          | inr most ↦ ap (λ b. b && nat_le skip j) (found.none_before (first_bit m slice set + j) (omega (arith, most)) (omega (arith, below)))
        ]

-- the next open tuple of the sets in play is found set by set
sets_next : (m : ModelView) (slice : Slice) (bits : List Bool) (column : ℕ) (from : Option (ℕ × ℕ)) (i n : ℕ)
    → find (λ place. is_marked m slice bits place && (is_in_play m slice column place && is_after from place))
    (flat_map (places_in m slice) (range_with_len i n))
    ≡ next_of m slice bits from (filter (in_play_with m slice column) (range_with_len i n))
sets_next m slice bits column from i zero = refl
sets_next m slice bits column from i (suc n) =
    let f : ℕ × ℕ → Bool = λ place. is_marked m slice bits place && (is_in_play m slice column place && is_after from place) in
    let later = filter (in_play_with m slice column) (range_with_len (i + 1) n) in
    let rest = sets_next m slice bits column from (i + 1) n in
    let start = slice_start m (set_at m i) slice in
    let count = tuple_count m slice i in
    let plays = ends_with_column m slice column (set_at m i) in
    let out : in_play_with m slice column i ≡ false → find f (places_in m slice i) ≡ None
    → option_or (find f (places_in m slice i)) (next_of m slice bits from later)
    ≡ next_of m slice bits from (filter (in_play_with m slice column) (range_with_len i (suc n)))
    = λ fails none. ap (λ o. option_or o (next_of m slice bits from later)) none
    ∙ ap (next_of m slice bits from) (sym (filter_no (in_play_with m slice column) i (range_with_len (i + 1) n) fails)) in
    find-append f (places_in m slice i) (flat_map (places_in m slice) (range_with_len (i + 1) n))
    ∙ ap (λ o. option_or (find f (places_in m slice i)) o) rest
    ∙ elim (cases_Bool plays) [
      | inr fails ↦
          let plain : start ≡ start + 0 = omega arith in
          out (ap (λ b. b && nat_lt 0 count) fails)
          (ap (λ a. find f (map (λ rank. (i, rank)) (range_with_len a count))) plain
          ∙ none_found f i start 0 count (λ j least below. ap (λ b. is_marked m slice bits (i, start + j) && (b && is_after from (i, start + j))) fails
          ∙ and-false (is_marked m slice bits (i, start + j))))
      | inl passing ↦
          elim (cases_Bool (nat_lt 0 count)) [
            | inr empty ↦
                let zero_count : count ≡ 0 = grind (arith, nat_tests) in
                out (ap (λ b. plays && b) empty ∙ and-false plays) (ap (λ c. find f (map (λ rank. (i, rank)) (range_with_len start c))) zero_count)
            | inl filled ↦
                let both : in_play_with m slice column i ≡ true = ap (λ b. b && nat_lt 0 count) passing ∙ filled in
                ap (λ o. option_or o (next_of m slice bits from later)) (same_found (range_with_len start count) passing)
                ∙ ap (next_of m slice bits from) (sym (filter_yes (in_play_with m slice column) i (range_with_len (i + 1) n) both))
          ]
    ]
  where
    same_found : (ranks : List ℕ) → ends_with_column m slice column (set_at m i) ≡ true
        → find (λ place. is_marked m slice bits place && (is_in_play m slice column place && is_after from place)) (map (λ rank. (i, rank)) ranks)
        ≡ find (λ place. is_marked m slice bits place && is_after from place) (map (λ rank. (i, rank)) ranks)
    same_found [] passing = refl
    same_found (rank ∷ ranks) passing =
        ap (λ b. if is_marked m slice bits (i, rank) && (b && is_after from (i, rank)) then Some (i, rank)
        else find (λ place. is_marked m slice bits place && (is_in_play m slice column place && is_after from place)) (map (λ rank. (i, rank)) ranks)) passing
        ∙ ap (λ o. if is_marked m slice bits (i, rank) && is_after from (i, rank) then Some (i, rank) else o) (same_found ranks passing)

pub next_open_of : (m : ModelView) (slice : Slice) (bits : List Bool) (column : ℕ) (from : Option (ℕ × ℕ))
    → next_of m slice bits from (sets_in_play m slice column) ≡ next_open (marked m slice bits) column from
next_open_of m slice bits column from =
    sym (find_passing (λ place. is_in_play m slice column place && is_after from place) (is_marked m slice bits) (slice_places m slice)
    ∙ sets_next m slice bits column from 0 (length (demanded_sets m)))

-- the sets before that of a place have no tuple behind it
before_from : (m : ModelView) (slice : Slice) (bits : List Bool) (place : ℕ × ℕ) (set : ℕ) → set < place.0 → next_in m slice bits (Some place) set ≡ None
before_from m slice bits place set less = none (range_with_len (slice_start m (set_at m set) slice) (tuple_count m slice set))
  where
    none : (ranks : List ℕ) → find (λ other. is_marked m slice bits other && is_after (Some place) other) (map (λ rank. (set, rank)) ranks) ≡ None
    none [] = refl
    none (rank ∷ ranks) =
        let first : nat_lt place.0 set ≡ false = grind (arith, nat_tests) in
        let second : (place.0 == set) ≡ false = grind (arith, nat_tests) in
        let before : is_after (Some place) (set, rank) ≡ false = ap (λ b. b || ((place.0 == set) && nat_lt place.1 rank)) first
        ∙ ap (λ b. b && nat_lt place.1 rank) second in
        ap (λ b. if is_marked m slice bits (set, rank) && b then Some (set, rank)
        else find (λ other. is_marked m slice bits other && is_after (Some place) other) (map (λ rank. (set, rank)) ranks)) before
        ∙ ap (λ b. if b then Some (set, rank) else find (λ other. is_marked m slice bits other && is_after (Some place) other)
        (map (λ rank. (set, rank)) ranks))
        (and-false (is_marked m slice bits (set, rank)))
        ∙ none ranks

pub past_sets : (m : ModelView) (slice : Slice) (bits : List Bool) (place : ℕ × ℕ) (i : ℕ) (sets : List ℕ)
    → ((k : ℕ) → k < i → k < length sets → get_or sets k 0 < place.0)
    → next_of m slice bits (Some place) (drop i sets) ≡ next_of m slice bits (Some place) sets
past_sets m slice bits place zero sets before = refl
past_sets m slice bits place (suc i) [] before = refl
past_sets m slice bits place (suc i) (set ∷ sets) before =
    past_sets m slice bits place i sets (λ k less within. before (suc k) (omega (arith, less)) (omega (arith, within)))
    ∙ ap (λ o. option_or o (next_of m slice bits (Some place) sets)) (sym (before_from m slice bits place set (before 0 (omega arith) (omega arith))))

-- the ranks are few
rank_few : (m : ModelView) (slice : Slice) (set rank : ℕ) → IsKept (plan_of m) → IsSliceOf m slice → list_any (is_place (set, rank)) (slice_places m slice)
    ≡ true → rank < 2 ^ 26
rank_few m slice set rank kept own listed =
    let known = place_known m slice (plan_of m) set rank refl kept own listed in
    let within : set < length (plan_of m).sizes = omega (arith, kept.as_many, known.known) in
    omega (arith, known.below, get_or-le-sum_by (λ k. k) (plan_of m).sizes set 0 within, kept.within)

-- what is known where one looks for the next open tuple of a set
pub record NextKnown (m : ModelView) (slice : Slice) (set : ℕ) (from : Option (ℕ × ℕ)) (block : Block) : Type 0 where
  pub start : block.start ≡ slice_start m (set_at m set) slice
  pub low : skipped block.start from set ≤ block.count
  pub few : block.first + block.count ≤ length (slice_places m slice)
  pub known : IsFrom m slice set from

pub next_known : (m : ModelView) (slice : Slice) (set column : ℕ) (from : Option (ℕ × ℕ)) (block : Block) → InPlay m slice column set
    → IsBlock m slice set block
    → IfSome from (λ place. list_any (is_place place) (slice_places m slice) ≡ true) → IfSome from (λ place. place.0 ≤ set) → NextKnown m slice set from block
next_known m slice set column from block play is listed least =
    let start = is.start (omega (arith, is.count, play.some)) in
    record {
      start = start;
      low = subst (λ s. skipped s from set ≤ block.count) (sym start) (by_place from listed);
      few = omega (arith, bits_before m slice set (length (demanded_sets m)) play.exists, is.first, is.count);
      known = record { own = all_known from listed; least = least };
    }
  where
    all_known : (from : Option (ℕ × ℕ)) → IfSome from (λ place. list_any (is_place place) (slice_places m slice) ≡ true) → IfSome from (BitKnown m slice)
    all_known None listed = tt
    all_known (Some place) listed = bit_known m slice place listed

    by_place : (from : Option (ℕ × ℕ)) → IfSome from (λ place. list_any (is_place place) (slice_places m slice) ≡ true)
        → skipped (slice_start m (set_at m set) slice) from set ≤ block.count
    by_place None listed = omega arith
    by_place (Some place) listed =
        let known = bit_known m slice place listed in
        let offset : place.1 - slice_start m (set_at m place.0) slice < tuple_count m slice place.0 = omega (arith, known.below) in
        elim (cases_eq place.0 set) [
          | inl here ↦
              let test : (place.0 == set) ≡ true = grind (arith, nat_tests) in
              let inside = subst (λ s. place.1 - slice_start m (set_at m s) slice < tuple_count m slice s) here offset in
              rw test (omega (arith, inside, is.count))
          | inr apart ↦ let test : (place.0 == set) ≡ false = grind (arith, nat_tests) in rw test (omega arith)
        ]

-- the place that a bit gives
pub record FoundPlace (m : ModelView) (slice : Slice) (bits : List Bool) (set : ℕ) (from : Option (ℕ × ℕ)) (rank : ℕ) : Type 0 where
  pub value : Some (set, rank) ≡ next_in m slice bits from set
  pub own : list_any (is_place (set, rank)) (slice_places m slice) ≡ true
  pub few : rank < 2 ^ 26

pub found_place : (m : ModelView) (slice : Slice) (bits : List Bool) (set column bit : ℕ) (from : Option (ℕ × ℕ)) (block : Block) → IsKept (plan_of m)
    → IsSliceOf m slice
    → InPlay m slice column set → IsBlock m slice set block → NextKnown m slice set from block
    → IsFirstSet bits (block.first + skipped block.start from set) (block.first + block.count) bit
    → FoundPlace m slice bits set from (block.start + (bit - block.first))
found_place m slice bits set column bit from block kept own play is known found =
    let j = bit - first_bit m slice set in
    let rank : block.start + (bit - block.first) ≡ slice_start m (set_at m set) slice + j = ap (λ s. s + (bit - block.first)) known.start
    ∙ ap (λ f. slice_start m (set_at m set) slice + (bit - f)) is.first in
    let there = subst (λ f. IsFirstSet bits (f + skipped block.start from set) (f + block.count) bit) is.first found in
    let also = subst (λ n. IsFirstSet bits (first_bit m slice set + skipped block.start from set) (first_bit m slice set + n) bit) is.count there in
    let begun = subst (λ s. IsFirstSet bits (first_bit m slice set + skipped s from set) (first_bit m slice set + tuple_count m slice set) bit)
    known.start also in
    let below : j < tuple_count m slice set = omega (arith, begun.lowest, begun.below) in
    let listed = place_listed m slice set j play.exists below in
    subst (FoundPlace m slice bits set from) (sym rank)
    (record {
      value = sym (next_some m slice bits from set bit known.known begun);
      own = listed;
      few =
          rank_few m slice set (slice_start m (set_at m set) slice + j) kept own listed;
    })

pub no_place : (m : ModelView) (slice : Slice) (bits : List Bool) (set : ℕ) (from : Option (ℕ × ℕ)) (block : Block) → IsBlock m slice set block
    → NextKnown m slice set from block
    → NoneSet bits (block.first + skipped block.start from set) (block.first + block.count) → None ≡ next_in m slice bits from set
no_place m slice bits set from block is known none =
    let there = subst (λ f. NoneSet bits (f + skipped block.start from set) (f + block.count)) is.first none in
    let also = subst (λ n. NoneSet bits (first_bit m slice set + skipped block.start from set) (first_bit m slice set + n)) is.count there in
    sym (next_none m slice bits from set known.known
    (subst (λ s. NoneSet bits (first_bit m slice set + skipped s from set) (first_bit m slice set + tuple_count m slice set)) known.start also))

-- the sets in play rise
rises_on : (xs : List ℕ) (a e : ℕ) → RisesFrom a e xs → (i j d : ℕ) → i ≤ j → j < length xs → get_or xs i d ≤ get_or xs j d
rises_on [] a e rises i j d le within = absurd (omega (arith, within))
rises_on (x ∷ xs) a e rises zero zero d le within = omega arith
rises_on (x ∷ xs) a e rises (suc i) zero d le within = absurd (omega (arith, le))
rises_on (x ∷ xs) a e rises zero (suc j) d le within = (let above = least xs (x + 1) e rises.2 j d (omega (arith, within)) in omega (arith, above))
  where
    least : (xs : List ℕ) (a e : ℕ) → RisesFrom a e xs → (j d : ℕ) → j < length xs → a ≤ get_or xs j d
    least [] a e rises j d within = absurd (omega (arith, within))
    least (x ∷ xs) a e rises zero d within = rises.0
    least (x ∷ xs) a e rises (suc j) d within = (let rest = least xs (x + 1) e rises.2 j d (omega (arith, within)) in omega (arith, rest, rises.0))
rises_on (x ∷ xs) a e rises (suc i) (suc j) d le within = rises_on xs (x + 1) e rises.2 i j d (omega (arith, le)) (omega (arith, within))

pub play_rises : (m : ModelView) (slice : Slice) (column : ℕ) → IsNonDecreasingBy (λ s. s) (sets_in_play m slice column)
play_rises m slice column =
    rises_on (sets_in_play m slice column) 0 (0 + length (demanded_sets m)) (rises_passing (in_play_with m slice column) 0 (length (demanded_sets m)))

-- where one begins to look, nothing was passed over
pub begins_at : (m : ModelView) (slice : Slice) (bits : List Bool) (from : Option (ℕ × ℕ)) (i : ℕ) (sets : List ℕ)
    → ((k : ℕ) → k < i → IfSome from (λ place. get_or sets k 0 < place.0))
    → (from ≡ None → i ≡ 0) → next_of m slice bits from (drop i sets) ≡ next_of m slice bits from sets
begins_at m slice bits None i sets before all = ap (λ k. next_of m slice bits None (drop k sets)) (all refl)
begins_at m slice bits (Some place) i sets before all = past_sets m slice bits place i sets (λ k less within. before k less)
