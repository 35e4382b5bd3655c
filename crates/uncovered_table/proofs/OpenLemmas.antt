-- Tables of open tuples by their bits: asking, closing and counting.
use Rattle.std.proofs.Common.{inl, inr, ◌≡◌, ℕ, zero, suc, ◌+◌, ◌-◌, ◌<◌, Bool, true, false, ◌&&◌, ◌||◌, not, List, [], ◌∷◌, ◌++◌, All}
use Rattle.std.proofs.Common.{map, length, get_or, replicate, ◌∙◌, refl, sym, ap, arith, zero-add, length-append}
use Rattle.std.specs.Prelude.{slice_set, if◌then◌else◌}
use Rattle.std.specs.List.{count_by, filter, flat_map, list_any, range_with_len}
use Rattle.std.proofs.lemmas.Bool.{false≢true, cases_Bool}
use Rattle.std.proofs.lemmas.List.{get_or-replicate, get_or-set_same, get_or-set_other}
use Rattle.std.proofs.lemmas.List.Elements.{All-weaker, filter-append}
use Rattle.std.proofs.lemmas.List.FromFn.{length-map-range_with_len}
use Rattle.std.proofs.lemmas.List.Sums.{length-filter}
use Rattle.std.proofs.Math.Bool.{and-true, and-false}
use Rattle.value_text.proofs.ListLemmas.{filter-filter, filter_all}
use Rattle.cov_model.specs.declared.slice.Slice.{Slice}
use Rattle.cov_model.specs.believed.Sound.{ModelView}
use Rattle.definitions.specs.believed.Demand.{demanded_sets}
use Rattle.uncovered_table.specs.Bits.{bit_of, first_bit, is_marked, marked, tuple_count}
use Rattle.uncovered_table.specs.Open.{all_open, closed, is_open}
use Rattle.uncovered_table.specs.Places.{is_place, places_in, set_at, slice_places, slice_start}
use Rattle.uncovered_table.proofs.BitLemmas.{BitKnown, bit_known, filter_within, first_bit_more, same_bit, same_places}
use Rattle.uncovered_table.proofs.ColumnLemmas.{filter_no, filter_yes}
use Rattle.uncovered_table.proofs.PlaceLemmas.{each_listed, same_place}

-- an item is among those that pass exactly if it passes and is among all
pub any_passing : {X : Type 0} (same g : X → Bool) (passes : Bool) (xs : List X) → ((x : X) → same x ≡ true → g x ≡ passes)
    → list_any same (filter g xs) ≡ (passes && list_any same xs)
any_passing same g passes [] agree = sym (and-false passes)
any_passing same g passes (x ∷ xs) agree =
    let rest = any_passing same g passes xs agree in
    elim (cases_Bool (same x)) [
      | inl here ↦
          elim (cases_Bool (g x)) [
            | inl passing ↦
                let all : passes ≡ true = sym (agree x here) ∙ passing in
                ap (list_any same) (filter_yes g x xs passing) ∙ ap (λ b. b || list_any same (filter g xs)) here
                ∙ sym (ap (λ b. b && (same x || list_any same xs)) all ∙ ap (λ b. b || list_any same xs) here)
            | inr fails ↦
                let none : passes ≡ false = sym (agree x here) ∙ fails in
                ap (list_any same) (filter_no g x xs fails) ∙ rest ∙ ap (λ b. b && list_any same xs) none
                ∙ sym (ap (λ b. b && (same x || list_any same xs)) none)
          ]
      | inr other ↦
          elim (cases_Bool (g x)) [
            | inl passing ↦
                ap (list_any same) (filter_yes g x xs passing) ∙ ap (λ b. b || list_any same (filter g xs)) other ∙ rest
                ∙ ap (λ b. passes && (b || list_any same xs)) (sym other)
            | inr fails ↦ ap (list_any same) (filter_no g x xs fails) ∙ rest ∙ ap (λ b. passes && (b || list_any same xs)) (sym other)
          ]
    ]

-- a tuple is open exactly if its bit is set
pub open_bit : (m : ModelView) (slice : Slice) (bits : List Bool) (place : ℕ × ℕ) → list_any (is_place place) (slice_places m slice) ≡ true
    → is_open (marked m slice bits) place ≡ get_or bits (bit_of m slice place) false
open_bit m slice bits place listed =
    any_passing (is_place place) (is_marked m slice bits) (is_marked m slice bits place) (slice_places m slice)
    (λ other same. ap (is_marked m slice bits) (sym (same_places place other same)))
    ∙ ap (λ b. is_marked m slice bits place && b) listed ∙ and-true (is_marked m slice bits place)

-- what is known of all places of the slice
pub all_known : (m : ModelView) (slice : Slice) → All (BitKnown m slice) (slice_places m slice)
all_known m slice =
    All-weaker (λ place. list_any (is_place place) (slice_places m slice) ≡ true) (BitKnown m slice) (λ place listed. bit_known m slice place listed)
    (slice_places m slice)
    (each_listed (slice_places m slice))

-- other bits give other tables
pub marked_as : (m : ModelView) (slice : Slice) (f : ℕ × ℕ → Bool) (bits changed : List Bool)
    → ((place : ℕ × ℕ) → BitKnown m slice place → (is_marked m slice bits place && f place) ≡ is_marked m slice changed place)
    → filter f (filter (is_marked m slice bits) (slice_places m slice)) ≡ filter (is_marked m slice changed) (slice_places m slice)
marked_as m slice f bits changed same =
    filter-filter f (is_marked m slice bits) (slice_places m slice)
    ∙ filter_within (λ place. is_marked m slice bits place && f place) (is_marked m slice changed) (slice_places m slice)
    (All-weaker (BitKnown m slice) (λ place. (is_marked m slice bits place && f place) ≡ is_marked m slice changed place) same (slice_places m slice)
    (all_known m slice))

-- closing a tuple clears its bit
pub closed_bit : (m : ModelView) (slice : Slice) (bits : List Bool) (place : ℕ × ℕ) → list_any (is_place place) (slice_places m slice) ≡ true
    → length bits ≡ length (slice_places m slice) → marked m slice (slice_set bits (bit_of m slice place) false) ≡ closed (marked m slice bits) place
closed_bit m slice bits place listed long =
    let own = bit_known m slice place listed in
    let within : bit_of m slice place < length bits = omega (arith, own.within, long) in
    let each : (other : ℕ × ℕ) → BitKnown m slice other
    → (is_marked m slice bits other && not (is_place place other)) ≡ is_marked m slice (slice_set bits (bit_of m slice place) false) other
    = λ other known. elim (cases_Bool (is_place place other)) [
      | inl same ↦
          let here = same_places place other same in
          ap (λ b. is_marked m slice bits other && not b) same ∙ and-false (is_marked m slice bits other)
          ∙ sym (ap (λ p. get_or (slice_set bits (bit_of m slice place) false) (bit_of m slice p) false) (sym here)
          ∙ get_or-set_same bits (bit_of m slice place) false false within)
      | inr differs ↦
          ap (λ b. is_marked m slice bits other && not b) differs ∙ and-true (is_marked m slice bits other)
          ∙ sym (get_or-set_other bits (bit_of m slice place) (bit_of m slice other) false false
          (λ same. false≢true (sym differs ∙ ap (is_place place) (same_bit m slice other place known own same) ∙ same_place place)))
    ] in
    ap (λ places. record { model = m; slice = slice; places = places })
    (sym (marked_as m slice (λ other. not (is_place place other)) bits (slice_set bits (bit_of m slice place) false) each))

-- where all bits are set, all tuples are open
pub all_marked : (m : ModelView) (slice : Slice) (n : ℕ) → n ≡ length (slice_places m slice) → marked m slice (replicate n true) ≡ all_open m slice
all_marked m slice n long =
    ap (λ places. record { model = m; slice = slice; places = places }) (filter_all (is_marked m slice (replicate n true)) (slice_places m slice)
    (All-weaker (BitKnown m slice) (λ place. is_marked m slice (replicate n true) place ≡ true)
    (λ place known. get_or-replicate n (bit_of m slice place) true false (omega (arith, known.within, long))) (slice_places m slice) (all_known m slice)))

-- ranges end to end
ranges : (a n k : ℕ) → range_with_len a (n + k) ≡ range_with_len a n ++ range_with_len (a + n) k
ranges a zero k =
    let plain : 0 + k ≡ k = omega arith in
    let start : a ≡ a + 0 = omega arith in
    ap (range_with_len a) plain ∙ ap (λ b. range_with_len b k) start
ranges a (suc n) k =
    let plain : suc n + k ≡ suc (n + k) = omega arith in
    let start : a + 1 + n ≡ a + suc n = omega arith in
    ap (range_with_len a) plain ∙ ap (λ ns. a ∷ ns) (ranges (a + 1) n k) ∙ ap (λ b. a ∷ range_with_len (a + 1) n ++ range_with_len b k) start

-- the places of a set and of the sets behind it have the bits from its first one on
set_bits : (m : ModelView) (slice : Slice) (f : ℕ → Bool) (set i n : ℕ)
    → length (filter (λ place. f (bit_of m slice place)) (map (λ rank. (set, rank)) (range_with_len (slice_start m (set_at m set) slice + i) n)))
    ≡ length (filter f (range_with_len (first_bit m slice set + i) n))
set_bits m slice f set i zero = refl
set_bits m slice f set i (suc n) =
    let start = slice_start m (set_at m set) slice in
    let first = first_bit m slice set in
    let offset : start + i - start ≡ i = omega arith in
    let head : f (bit_of m slice (set, start + i)) ≡ f (first + i) = ap (λ k. f (first + k)) offset in
    let next : start + i + 1 ≡ start + (i + 1) = omega arith in
    let later : first + i + 1 ≡ first + (i + 1) = omega arith in
    let rest = ap (λ a. length (filter (λ place. f (bit_of m slice place)) (map (λ rank. (set, rank)) (range_with_len a n)))) next
    ∙ set_bits m slice f set (i + 1) n
    ∙ ap (λ a. length (filter f (range_with_len a n))) (sym later) in
    ones (λ place. f (bit_of m slice place)) (set, start + i) (map (λ rank. (set, rank)) (range_with_len (start + i + 1) n))
    ∙ ap (λ b. (if b then 1 else 0) + length (filter (λ place. f (bit_of m slice place)) (map (λ rank. (set, rank)) (range_with_len (start + i + 1) n)))) head
    ∙ ap (λ k. (if f (first + i) then 1 else 0) + k) rest ∙ sym (ones f (first + i) (range_with_len (first + i + 1) n))
  where
    ones : {X : Type 0} (f : X → Bool) (x : X) (xs : List X) → length (filter f (x ∷ xs)) ≡ (if f x then 1 else 0) + length (filter f xs)
    ones f x xs = elim (cases_Bool (f x)) [
      | inl passing ↦ let more : suc (length (filter f xs)) ≡ 1 + length (filter f xs) = omega arith in
          ap length (filter_yes f x xs passing) ∙ more ∙ ap (λ b. (if b then 1 else 0) + length (filter f xs)) (sym passing)
      | inr fails ↦ let same : length (filter f xs) ≡ 0 + length (filter f xs) = omega arith in
          ap length (filter_no f x xs fails) ∙ same ∙ ap (λ b. (if b then 1 else 0) + length (filter f xs)) (sym fails)
    ]

sets_bits : (m : ModelView) (slice : Slice) (f : ℕ → Bool) (set n : ℕ)
    → length (filter (λ place. f (bit_of m slice place)) (flat_map (places_in m slice) (range_with_len set n)))
    ≡ length (filter f (range_with_len (first_bit m slice set) (length (flat_map (places_in m slice) (range_with_len set n)))))
sets_bits m slice f set zero = refl
sets_bits m slice f set (suc n) =
    let g = λ (place : ℕ × ℕ). f (bit_of m slice place) in
    let start = slice_start m (set_at m set) slice in
    let first = first_bit m slice set in
    let count = tuple_count m slice set in
    let here = places_in m slice set in
    let later = flat_map (places_in m slice) (range_with_len (set + 1) n) in
    let many : length (here ++ later) ≡ count + length later =
    length-append here later ∙ ap (λ k. k + length later) (length-map-range_with_len (λ rank. (set, rank)) start count) in
    let plain : start ≡ start + 0 = omega arith in
    let same : first + 0 ≡ first = omega arith in
    let own : length (filter g here) ≡ length (filter f (range_with_len first count)) =
    ap (λ a. length (filter g (map (λ rank. (set, rank)) (range_with_len a count)))) plain ∙ set_bits m slice f set 0 count
    ∙ ap (λ a. length (filter f (range_with_len a count))) same in
    ap length (filter-append g here later) ∙ length-append (filter g here) (filter g later)
    ∙ ap (λ k. k + length (filter g later)) own ∙ ap (λ k. length (filter f (range_with_len first count)) + k)
    (sets_bits m slice f (set + 1) n ∙ ap (λ a. length (filter f (range_with_len a (length later)))) (first_bit_more m slice set))
    ∙ sym (length-append (filter f (range_with_len first count)) (filter f (range_with_len (first + count) (length later))))
    ∙ ap length (sym (filter-append f (range_with_len first count) (range_with_len (first + count) (length later))))
    ∙ ap (λ ks. length (filter f ks)) (sym (ranges first count (length later)))
    ∙ ap (λ k. length (filter f (range_with_len first k))) (sym many)

-- the numbers at which a list of marks has one
marks_in : (f : ℕ → Bool) (a : ℕ) (bits : List Bool) → ((i : ℕ) → i < length bits → f (a + i) ≡ get_or bits i false)
    → length (filter f (range_with_len a (length bits))) ≡ length (filter (λ b. b) bits)
marks_in f a [] same = refl
marks_in f a (bit ∷ bits) same =
    let start : a + 0 ≡ a = omega arith in
    let here : f a ≡ bit = ap f (sym start) ∙ same 0 (omega arith) in
    let rest = marks_in f (a + 1) bits (λ i within. let next : a + 1 + i ≡ a + suc i = omega arith in ap f next ∙ same (suc i) (omega (arith, within))) in
    elim (cases_Bool bit) [
      | inl passing ↦ ap length (filter_yes f a (range_with_len (a + 1) (length bits)) (here ∙ passing)) ∙ ap suc rest
          ∙ sym (ap length (filter_yes (λ b. b) bit bits passing))
      | inr fails ↦ ap length (filter_no f a (range_with_len (a + 1) (length bits)) (here ∙ fails)) ∙ rest ∙ sym (ap length (filter_no (λ b. b) bit bits fails))
    ]

-- as many tuples are open as bits are set
pub count_bits : (m : ModelView) (slice : Slice) (bits : List Bool) → length bits ≡ length (slice_places m slice)
    → count_by (λ b. b) bits ≡ length (filter (is_marked m slice bits) (slice_places m slice))
count_bits m slice bits long =
    sym (sets_bits m slice (λ k. get_or bits k false) 0 (length (demanded_sets m))
    ∙ ap (λ n. length (filter (λ k. get_or bits k false) (range_with_len 0 n))) (sym long)
    ∙ marks_in (λ k. get_or bits k false) 0 bits (λ i within. ap (λ k. get_or bits k false) (zero-add i))
    ∙ length-filter (λ b. b) bits)
