-- The tuples that cells contain, set by set: how many of them are open, and what closing them leaves.
use Rattle.std.proofs.Common.{inl, inr, ◌≡◌, ℕ, zero, suc, ◌+◌, ◌-◌, ◌<◌, ◌≤◌, Bool, true, false, ◌&&◌, ◌||◌, not, List, [], ◌∷◌, Option, Some, None}
use Rattle.std.proofs.Common.{All, map, length, get_or, sum_by, nat_lt, ◌∙◌, refl, sym, ap, arith, zero-add, length-append}
use Rattle.std.specs.Prelude.{◌==◌, option_map, slice_set, if◌then◌else◌}
use Rattle.std.specs.Option.{option_map_or}
use Rattle.std.specs.List.{filter, flat_map, list_any, range_with_len}
use Rattle.std.proofs.lemmas.Bool.{cases_eq, cases_lt, cases_Bool, ne_eqb, and_parts}
use Rattle.std.proofs.lemmas.Bool.Decides.{nat_tests}
use Rattle.std.proofs.lemmas.List.{get_or-set_same, get_or-set_other, length-set}
use Rattle.std.proofs.lemmas.List.Elements.{All-cons, All-nil, All-same, All-head, All-tail, All-weaker, filter-append}
use Rattle.std.proofs.lemmas.List.Sums.{sum_by-cons}
use Rattle.std.proofs.Math.Bool.{and-true, and-false}
use Rattle.value_text.proofs.ListLemmas.{filter-filter, eqb-add_left, and_not-and_not}
use Rattle.cov_model.specs.declared.slice.Slice.{Slice}
use Rattle.cov_model.specs.believed.Sound.{ModelView}
use Rattle.cov_model.specs.believed.Rows.{contains}
use Rattle.definitions.specs.believed.Demand.{demanded_sets, is_among}
use Rattle.definitions.specs.SliceRows.{IsSliceOf}
use Rattle.tuple_index.specs.Kept.{IsKept}
use Rattle.tuple_index.specs.Places.{has_part, ways}
use Rattle.tuple_index.specs.Plan.{plan_of}
use Rattle.uncovered_table.specs.Bits.{InPlay, all_cleared, bit_count, bit_of, cleared, first_bit, held_bit, held_count, is_marked, marked, sets_in_play, tuple_count}
use Rattle.uncovered_table.specs.Digits.{AreDigits, cell_digit, number_of, own_values}
use Rattle.uncovered_table.specs.Open.{is_held, row_closed}
use Rattle.uncovered_table.specs.Places.{ends_with_column, places_in, set_at, slice_places, slice_start, tuple_at}
use Rattle.uncovered_table.proofs.BitLemmas.{BitKnown, bits_before}
use Rattle.uncovered_table.proofs.ChoiceLemmas.{contains_at}
use Rattle.uncovered_table.proofs.ColumnLemmas.{filter_no, filter_yes}
use Rattle.uncovered_table.proofs.DigitLemmas.{cell_digits, is_number, number_below}
use Rattle.uncovered_table.proofs.OpenLemmas.{any_passing, marked_as}
use Rattle.uncovered_table.proofs.PlaceLemmas.{set_rises}
use Rattle.uncovered_table.proofs.SliceLemmas.{length-tuples_in}

-- a number of a set that has tuples in the slice is below their number
pub number_within : (m : ModelView) (slice : Slice) (digits : ℕ → Option ℕ) (set n : ℕ) → IsKept (plan_of m) → set < length (demanded_sets m)
    → 0 < tuple_count m slice set
    → AreDigits (own_values m slice) digits → number_of (own_values m slice) digits (set_at m set) ≡ Some n → n < tuple_count m slice set
number_within m slice digits set n kept exists some below is =
    let members = set_at m set in
    let values = own_values m slice in
    let many = length-tuples_in m members slice (set_rises m set kept exists) in
    let inside = number_below values digits members n below is in
    elim (cases_Bool (has_part members slice)) [
      | inl part ↦ let all = ap (λ b. if b then ways values members else 0) part in omega (arith, inside, many, all)
      | inr none ↦ let empty = ap (λ b. if b then ways values members else 0) none in absurd (omega (arith, some, many, empty))
    ]

-- no place passes, or one does
none_pass : (f : ℕ × ℕ → Bool) (set start i c : ℕ) → ((j : ℕ) → i ≤ j → j < i + c → f (set, start + j) ≡ false)
    → length (filter f (map (λ rank. (set, rank)) (range_with_len (start + i) c))) ≡ 0
none_pass f set start i zero fails = refl
none_pass f set start i (suc c) fails =
    let next : start + i + 1 ≡ start + (i + 1) = omega arith in
    ap length (filter_no f (set, start + i) (map (λ rank. (set, rank)) (range_with_len (start + i + 1) c)) (fails i (omega arith) (omega arith)))
    ∙ ap (λ a. length (filter f (map (λ rank. (set, rank)) (range_with_len a c)))) next
    ∙ none_pass f set start (i + 1) c (λ j least below. fails j (omega (arith, least)) (omega (arith, below)))

one_passes : (f : ℕ × ℕ → Bool) (t : ℕ → Bool) (n set start i c : ℕ) → i ≤ n → n < i + c
    → ((j : ℕ) → i ≤ j → j < i + c → f (set, start + j) ≡ (t j && (n == j)))
    → length (filter f (map (λ rank. (set, rank)) (range_with_len (start + i) c))) ≡ (if t n then 1 else 0)
one_passes f t n set start i zero least below same = absurd (omega (arith, least, below))
one_passes f t n set start i (suc c) least below same =
    let later : List (ℕ × ℕ) = map (λ rank. (set, rank)) (range_with_len (start + i + 1) c) in
    let next : start + i + 1 ≡ start + (i + 1) = omega arith in
    let again = ap (λ a. length (filter f (map (λ rank. (set, rank)) (range_with_len a c)))) next in
    elim (cases_eq n i) [
      | inl here ↦
          let test : (n == i) ≡ true = grind (arith, nat_tests) in
          let own : f (set, start + i) ≡ t n = same i (omega arith) (omega arith) ∙ ap (λ b. t i && b) test ∙ and-true (t i) ∙ ap t (sym here) in
          let rest = again ∙ none_pass f set start (i + 1) c
          (λ j above inside. let differs : (n == j) ≡ false = grind (arith, nat_tests) in
          same j (omega (arith, above)) (omega (arith, inside)) ∙ ap (λ b. t j && b) differs ∙ and-false (t j)) in
          head (t n) own rest
      | inr apart ↦
          let test : (n == i) ≡ false = grind (arith, nat_tests) in
          let own : f (set, start + i) ≡ false = same i (omega arith) (omega arith) ∙ ap (λ b. t i && b) test ∙ and-false (t i) in
          ap length (filter_no f (set, start + i) later own) ∙ again
          ∙ one_passes f t n set start (i + 1) c (omega (arith, least, apart)) (omega (arith, below))
          (λ j above inside. same j (omega (arith, above)) (omega (arith, inside)))
    ]
  where
    head : (b : Bool) → f (set, start + i) ≡ b → length (filter f (map (λ rank. (set, rank)) (range_with_len (start + i + 1) c))) ≡ 0
        → length (filter f (map (λ rank. (set, rank)) (range_with_len (start + i) (suc c)))) ≡ (if b then 1 else 0)
    head true own rest = ap length (filter_yes f (set, start + i) (map (λ rank. (set, rank)) (range_with_len (start + i + 1) c)) own) ∙ ap suc rest
    head false own rest = ap length (filter_no f (set, start + i) (map (λ rank. (set, rank)) (range_with_len (start + i + 1) c)) own) ∙ rest

-- of the tuples of a set at most the one of the digits is counted
counted : (f : ℕ × ℕ → Bool) (t : ℕ → Bool) (o : Option ℕ) (set start c : ℕ) → ((n : ℕ) → o ≡ Some n → n < c)
    → ((j : ℕ) → j < c → f (set, start + j) ≡ (t j && is_number o j))
    → length (filter f (map (λ rank. (set, rank)) (range_with_len start c))) ≡ option_map_or (λ n. if t n then 1 else 0) o 0
counted f t o set start c below same =
    let plain : start ≡ start + 0 = omega arith in
    ap (λ a. length (filter f (map (λ rank. (set, rank)) (range_with_len a c)))) plain ∙ by_number o below same
  where
    by_number : (o : Option ℕ) → ((n : ℕ) → o ≡ Some n → n < c) → ((j : ℕ) → j < c → f (set, start + j) ≡ (t j && is_number o j))
        → length (filter f (map (λ rank. (set, rank)) (range_with_len (start + 0) c))) ≡ option_map_or (λ n. if t n then 1 else 0) o 0
    by_number None below same = none_pass f set start 0 c (λ j least inside. same j (omega (arith, inside)) ∙ and-false (t j))
    by_number (Some n) below same =
        let within = below n refl in
        one_passes f t n set start 0 c (omega arith) (omega (arith, within)) (λ j least inside. same j (omega (arith, inside)))

-- the open tuples of a set that cells contain, where it is in play
abbrev counts_for : ModelView → Slice → List Bool → List (Option ℕ) → ℕ → ℕ × ℕ → Bool
counts_for m slice bits cells column place = is_marked m slice bits place && is_held (marked m slice bits) column cells place

abbrev pub in_play_with : ModelView → Slice → ℕ → ℕ → Bool
in_play_with m slice column set = ends_with_column m slice column (set_at m set) && nat_lt 0 (tuple_count m slice set)

set_counts : (m : ModelView) (slice : Slice) (bits : List Bool) (cells : List (Option ℕ)) (column set : ℕ) → IsKept (plan_of m) → IsSliceOf m slice
    → set < length (demanded_sets m)
    → length cells ≡ length m.params
    → length (filter (counts_for m slice bits cells column) (places_in m slice set))
    ≡ (if in_play_with m slice column set then held_count m slice bits (cell_digit (own_values m slice) cells) set else 0)
set_counts m slice bits cells column set kept own exists long =
    let start = slice_start m (set_at m set) slice in
    let first = first_bit m slice set in
    let count = tuple_count m slice set in
    let values = own_values m slice in
    let number = number_of values (cell_digit values cells) (set_at m set) in
    let f = counts_for m slice bits cells column in
    let plays = ends_with_column m slice column (set_at m set) in
    let answer : Bool → ℕ = λ b. if b then held_count m slice bits (cell_digit values cells) set else 0 in
    elim (cases_Bool plays) [
      | inr out ↦
          let plain : start ≡ start + 0 = omega arith in
          let none : (j : ℕ) → f (set, start + j) ≡ false =
          λ j. ap (λ b. is_marked m slice bits (set, start + j) && (b && contains cells (tuple_at m (set, start + j)))) out
          ∙ and-false (is_marked m slice bits (set, start + j)) in
          ap (λ a. length (filter f (map (λ rank. (set, rank)) (range_with_len a count)))) plain
          ∙ none_pass f set start 0 count (λ j least below. none j)
          ∙ ap answer (sym (ap (λ b. b && nat_lt 0 count) out))
      | inl in_play ↦
          elim (cases_Bool (nat_lt 0 count)) [
            | inr empty ↦
                let zero_count : count ≡ 0 = grind (arith, nat_tests) in
                ap (λ c. length (filter f (map (λ rank. (set, rank)) (range_with_len start c)))) zero_count
                ∙ ap answer (sym (ap (λ b. plays && b) empty ∙ and-false plays))
            | inl filled ↦
                let some : 0 < count = grind (arith, nat_tests) in
                let each : (j : ℕ) → j < count → f (set, start + j) ≡ (get_or bits (first + j) false && is_number number j) =
                λ j below.
                let offset : start + j - start ≡ j = omega arith in
                ap (λ k. get_or bits (first + k) false && (plays && contains cells (tuple_at m (set, start + j)))) offset
                ∙ ap (λ b. get_or bits (first + j) false && (b && contains cells (tuple_at m (set, start + j)))) in_play
                ∙ ap (λ b. get_or bits (first + j) false && b) (contains_at m slice cells set j kept own exists long below) in
                counted f (λ j. get_or bits (first + j) false) number set start count
                (λ n is. number_within m slice (cell_digit values cells) set n kept exists some (cell_digits values cells) is) each
                ∙ shown number ∙ ap answer (sym (ap (λ b. b && nat_lt 0 count) in_play ∙ filled))
          ]
    ]
  where
    shown : (o : Option ℕ) → option_map_or (λ n. if get_or bits (first_bit m slice set + n) false then 1 else 0) o 0
        ≡ bit_count bits (option_map (λ n. first_bit m slice set + n) o)
    shown None = refl
    shown (Some n) = refl

-- set by set
sets_count : (m : ModelView) (slice : Slice) (bits : List Bool) (cells : List (Option ℕ)) (column i n : ℕ) → IsKept (plan_of m) → IsSliceOf m slice
    → i + n ≤ length (demanded_sets m) → length cells ≡ length m.params
    → length (filter (counts_for m slice bits cells column) (flat_map (places_in m slice) (range_with_len i n)))
    ≡ sum_by (held_count m slice bits (cell_digit (own_values m slice) cells)) (filter (in_play_with m slice column) (range_with_len i n))
sets_count m slice bits cells column i zero kept own within long = refl
sets_count m slice bits cells column i (suc n) kept own within long =
    let f = counts_for m slice bits cells column in
    let k = held_count m slice bits (cell_digit (own_values m slice) cells) in
    let later = flat_map (places_in m slice) (range_with_len (i + 1) n) in
    let rest = sets_count m slice bits cells column (i + 1) n kept own (omega (arith, within)) long in
    let here = set_counts m slice bits cells column i kept own (omega (arith, within)) long in
    ap length (filter-append f (places_in m slice i) later) ∙ length-append (filter f (places_in m slice i)) (filter f later)
    ∙ ap (λ a. a + length (filter f later)) here ∙ ap (λ a. (if in_play_with m slice column i then k i else 0) + a) rest
    ∙ added k (in_play_with m slice column) i (range_with_len (i + 1) n)
  where
    added : (k : ℕ → ℕ) (g : ℕ → Bool) (x : ℕ) (xs : List ℕ) → (if g x then k x else 0) + sum_by k (filter g xs) ≡ sum_by k (filter g (x ∷ xs))
    added k g x xs = elim (cases_Bool (g x)) [
      | inl passing ↦ ap (λ b. (if b then k x else 0) + sum_by k (filter g xs)) passing
          ∙ sym (ap (sum_by k) (filter_yes g x xs passing) ∙ sum_by-cons k x (filter g xs))
      | inr fails ↦ ap (λ b. (if b then k x else 0) + sum_by k (filter g xs)) fails ∙ zero-add (sum_by k (filter g xs))
          ∙ sym (ap (sum_by k) (filter_no g x xs fails))
    ]

-- the open tuples of the sets in play that cells contain
pub held_sum : (m : ModelView) (slice : Slice) (bits : List Bool) (cells : List (Option ℕ)) (column : ℕ) → IsKept (plan_of m) → IsSliceOf m slice
    → length cells ≡ length m.params
    → length (filter (is_held (marked m slice bits) column cells) (filter (is_marked m slice bits) (slice_places m slice)))
    ≡ sum_by (held_count m slice bits (cell_digit (own_values m slice) cells)) (sets_in_play m slice column)
held_sum m slice bits cells column kept own long =
    ap length (filter-filter (is_held (marked m slice bits) column cells) (is_marked m slice bits) (slice_places m slice))
    ∙ sets_count m slice bits cells column 0 (length (demanded_sets m)) kept own (omega arith) long

-- a number of a range is among those that pass if it does
in_range : (a n v : ℕ) → a ≤ v → v < a + n → is_among (range_with_len a n) v ≡ true
in_range a zero v least below = absurd (omega (arith, least, below))
in_range a (suc n) v least below =
    elim (cases_eq a v) [
      | inl here ↦ let test : (a == v) ≡ true = grind (arith, nat_tests) in ap (λ b. b || is_among (range_with_len (a + 1) n) v) test
      | inr apart ↦
          let test : (a == v) ≡ false = grind (arith, nat_tests) in
          ap (λ b. b || is_among (range_with_len (a + 1) n) v) test ∙ in_range (a + 1) n v (omega (arith, least, apart)) (omega (arith, below))
    ]

pub among_passing : (f : ℕ → Bool) (n v : ℕ) → v < n → is_among (filter f (range_with_len 0 n)) v ≡ f v
among_passing f n v below =
    any_passing (λ k. k == v) f (f v) (range_with_len 0 n) (λ k same. let equal : k ≡ v = grind (arith, nat_tests) in ap f equal)
    ∙ ap (λ b. f v && b) (in_range 0 n v (omega arith) (omega (arith, below))) ∙ and-true (f v)

-- the one number of a list that has a fact, if it is there
one_among : (f : ℕ → Bool) (v : ℕ) (b : Bool) (sets : List ℕ) → All (λ set. f set ≡ ((set == v) && b)) sets → list_any f sets ≡ (is_among sets v && b)
one_among f v b [] same = refl
one_among f v b (set ∷ sets) same =
    ap (λ c. c || list_any f sets) (All-head (λ set. f set ≡ ((set == v) && b)) set sets same)
    ∙ ap (λ c. ((set == v) && b) || c) (one_among f v b sets (All-tail (λ set. f set ≡ ((set == v) && b)) set sets same))
    ∙ shared (set == v) (is_among sets v) b
  where
    shared : (x y b : Bool) → ((x && b) || (y && b)) ≡ ((x || y) && b)
    shared true y true = refl
    shared true true false = refl
    shared true false false = refl
    shared false y b = refl

-- the sets in play are
pub all_in_play : (m : ModelView) (slice : Slice) (column : ℕ) → All (InPlay m slice column) (sets_in_play m slice column)
all_in_play m slice column = from 0 (length (demanded_sets m)) (omega arith)
  where
    known : (set : ℕ) → set < length (demanded_sets m) → in_play_with m slice column set ≡ true → InPlay m slice column set
    known set exists play =
        let parts = and_parts (ends_with_column m slice column (set_at m set)) (nat_lt 0 (tuple_count m slice set)) play in
        let filled = parts.1 in
        record { exists = exists; ends = parts.0; some = grind (arith, nat_tests) }

    from : (a n : ℕ) → a + n ≤ length (demanded_sets m) → All (InPlay m slice column) (filter (in_play_with m slice column) (range_with_len a n))
    from a zero within = All-nil (InPlay m slice column)
    from a (suc n) within =
        let rest = from (a + 1) n (omega (arith, within)) in
        elim (cases_Bool (in_play_with m slice column a)) [
          | inl passing ↦ All-same (InPlay m slice column) _ _ (filter_yes (in_play_with m slice column) a (range_with_len (a + 1) n) passing)
              (All-cons (InPlay m slice column) a (filter (in_play_with m slice column) (range_with_len (a + 1) n)) (known a (omega (arith, within)) passing)
              rest)
          | inr fails ↦ All-same (InPlay m slice column) _ _ (filter_no (in_play_with m slice column) a (range_with_len (a + 1) n) fails) rest
        ]

-- cells contain the tuple of a place of a set in play exactly if its bit is that of a set in play
held_by_bit : (m : ModelView) (slice : Slice) (bits : List Bool) (cells : List (Option ℕ)) (column : ℕ) (place : ℕ × ℕ) → IsKept (plan_of m) → IsSliceOf m slice
    → length cells ≡ length m.params → BitKnown m slice place
    → is_held (marked m slice bits) column cells place
    ≡ list_any (λ set. is_number (held_bit m slice (cell_digit (own_values m slice) cells) set) (bit_of m slice place)) (sets_in_play m slice column)
held_by_bit m slice bits cells column place kept own long known =
    let start = slice_start m (set_at m place.0) slice in
    let values = own_values m slice in
    let digits = cell_digit values cells in
    let sets = range_with_len 0 (length (demanded_sets m)) in
    let j = place.1 - start in
    let rank : start + j ≡ place.1 = omega (arith, known.least) in
    let below : j < tuple_count m slice place.0 = omega (arith, known.below) in
    let some : nat_lt 0 (tuple_count m slice place.0) ≡ true = grind (arith, nat_tests) in
    let plays = ends_with_column m slice column (set_at m place.0) in
    let holds = is_number (number_of values digits (set_at m place.0)) j in
    let contained : contains cells (tuple_at m place) ≡ holds =
    ap (λ r. contains cells (tuple_at m (place.0, r))) (sym rank) ∙ contains_at m slice cells place.0 j kept own known.exists long below in
    let listed : is_among (sets_in_play m slice column) place.0 ≡ plays =
    among_passing (in_play_with m slice column) (length (demanded_sets m)) place.0 known.exists ∙ ap (λ b. plays && b) some ∙ and-true plays in
    ap (λ b. plays && b) contained ∙ ap (λ b. b && holds) (sym listed)
    ∙ sym (one_among (λ set. is_number (held_bit m slice digits set) (bit_of m slice place)) place.0 holds (sets_in_play m slice column)
    (All-weaker (InPlay m slice column) (λ set. is_number (held_bit m slice digits set) (bit_of m slice place) ≡ ((set == place.0) && holds))
    (λ set play. by_set set (number_of values digits (set_at m set)) refl play) (sets_in_play m slice column) (all_in_play m slice column)))
  where
    by_set : (set : ℕ) (o : Option ℕ) → number_of (own_values m slice) (cell_digit (own_values m slice) cells) (set_at m set) ≡ o → InPlay m slice column set
        → is_number (option_map (λ n. first_bit m slice set + n) (number_of (own_values m slice) (cell_digit (own_values m slice) cells) (set_at m set)))
        (bit_of m slice place)
        ≡ ((set == place.0) && is_number (number_of (own_values m slice) (cell_digit (own_values m slice) cells) (set_at m place.0))
        (place.1 - slice_start m (set_at m place.0) slice))
    by_set set None is play =
        ap (λ o. is_number (option_map (λ n. first_bit m slice set + n) o) (bit_of m slice place)) is
        ∙ elim (cases_eq set place.0) [
          | inl here ↦
              let none : number_of (own_values m slice) (cell_digit (own_values m slice) cells) (set_at m place.0) ≡ None =
              ap (λ s. number_of (own_values m slice) (cell_digit (own_values m slice) cells) (set_at m s)) (sym here) ∙ is in
              sym (ap (λ o. (set == place.0) && is_number o (place.1 - slice_start m (set_at m place.0) slice)) none ∙ and-false (set == place.0))
          | inr apart ↦
              sym (ap (λ b. b && is_number (number_of (own_values m slice) (cell_digit (own_values m slice) cells) (set_at m place.0))
              (place.1 - slice_start m (set_at m place.0) slice))
              (ne_eqb set place.0 apart))
        ]
    by_set set (Some n) is play =
        let digits = cell_digit (own_values m slice) cells in
        let inside = number_within m slice digits set n kept play.exists play.some (cell_digits (own_values m slice) cells) is in
        ap (λ o. is_number (option_map (λ n. first_bit m slice set + n) o) (bit_of m slice place)) is
        ∙ elim (cases_eq set place.0) [
          | inl here ↦
              let same : number_of (own_values m slice) digits (set_at m place.0) ≡ Some n = ap (λ s. number_of (own_values m slice) digits (set_at m s))
              (sym here) ∙ is in
              let test : (set == place.0) ≡ true = grind (arith, nat_tests) in
              ap (λ s. first_bit m slice s + n == bit_of m slice place) here
              ∙ eqb-add_left (first_bit m slice place.0) n (place.1 - slice_start m (set_at m place.0) slice)
              ∙ sym (ap (λ b. b && is_number (number_of (own_values m slice) digits (set_at m place.0)) (place.1 - slice_start m (set_at m place.0) slice)) test
              ∙ ap (λ o. is_number o (place.1 - slice_start m (set_at m place.0) slice)) same)
          | inr apart ↦
              ne_eqb (first_bit m slice set + n) (bit_of m slice place) (elsewhere set n inside apart)
              ∙ sym (ap (λ b. b && is_number (number_of (own_values m slice) digits (set_at m place.0)) (place.1 - slice_start m (set_at m place.0) slice))
              (ne_eqb set place.0 apart))
        ]
      where
        elsewhere : (set n : ℕ) → n < tuple_count m slice set → (set ≡ place.0 → ⊥) → first_bit m slice set + n ≡ bit_of m slice place → ⊥
        elsewhere set n inside apart same =
            elim (cases_lt set place.0) [
              | inl less ↦ omega (arith, known.first, inside, same, bits_before m slice set place.0 less)
              | inr least ↦ omega (arith, known.below, same, bits_before m slice place.0 set (omega (arith, least, apart)))
            ]

-- clearing the bits of sets clears no others
cleared_at : (o : Option ℕ) (bits : List Bool) (k : ℕ) → k < length bits → get_or (cleared o bits) k false ≡ (get_or bits k false && not (is_number o k))
cleared_at None bits k within = sym (and-true (get_or bits k false))
cleared_at (Some bit) bits k within =
    elim (cases_eq bit k) [
      | inl here ↦
          let test : (bit == k) ≡ true = grind (arith, nat_tests) in
          ap (λ i. get_or (slice_set bits i false) k false) here ∙ get_or-set_same bits k false false within
          ∙ sym (ap (λ b. get_or bits k false && not b) test ∙ and-false (get_or bits k false))
      | inr apart ↦
          let test : (bit == k) ≡ false = grind (arith, nat_tests) in
          get_or-set_other bits bit k false false (λ same. apart (sym same))
          ∙ sym (ap (λ b. get_or bits k false && not b) test ∙ and-true (get_or bits k false))
    ]

pub length-cleared : (o : Option ℕ) (bits : List Bool) → length (cleared o bits) ≡ length bits
length-cleared None bits = refl
length-cleared (Some bit) bits = length-set bits bit false

pub length-all_cleared : (m : ModelView) (slice : Slice) (digits : ℕ → Option ℕ) (bits : List Bool) (sets : List ℕ)
    → length (all_cleared m slice digits bits sets) ≡ length bits
length-all_cleared m slice digits bits [] = refl
length-all_cleared m slice digits bits (set ∷ sets) =
    length-all_cleared m slice digits (cleared (held_bit m slice digits set) bits) sets ∙ length-cleared (held_bit m slice digits set) bits

all_cleared_at : (m : ModelView) (slice : Slice) (digits : ℕ → Option ℕ) (bits : List Bool) (sets : List ℕ) (k : ℕ) → k < length bits
    → get_or (all_cleared m slice digits bits sets) k false ≡ (get_or bits k false && not (list_any (λ set. is_number (held_bit m slice digits set) k) sets))
all_cleared_at m slice digits bits [] k within = sym (and-true (get_or bits k false))
all_cleared_at m slice digits bits (set ∷ sets) k within =
    let o = held_bit m slice digits set in
    let others = list_any (λ set. is_number (held_bit m slice digits set) k) sets in
    all_cleared_at m slice digits (cleared o bits) sets k (omega (arith, within, length-cleared o bits))
    ∙ ap (λ b. b && not others) (cleared_at o bits k within) ∙ and_not-and_not (get_or bits k false) (is_number o k) others

-- closing the tuples that cells contain clears their bits
pub row_closed_bits : (m : ModelView) (slice : Slice) (bits : List Bool) (cells : List (Option ℕ)) (column : ℕ) → IsKept (plan_of m) → IsSliceOf m slice
    → length cells ≡ length m.params → length bits ≡ length (slice_places m slice)
    → marked m slice (all_cleared m slice (cell_digit (own_values m slice) cells) bits (sets_in_play m slice column))
    ≡ row_closed (marked m slice bits) column cells
row_closed_bits m slice bits cells column kept own long as_many =
    let digits = cell_digit (own_values m slice) cells in
    let after = all_cleared m slice digits bits (sets_in_play m slice column) in
    ap (λ places. record { model = m; slice = slice; places = places })
    (sym (marked_as m slice (λ place. not (is_held (marked m slice bits) column cells place)) bits after
    (λ place known. ap (λ b. is_marked m slice bits place && not b) (held_by_bit m slice bits cells column place kept own long known)
    ∙ sym (all_cleared_at m slice digits bits (sets_in_play m slice column) (bit_of m slice place) (omega (arith, known.within, as_many))))))
