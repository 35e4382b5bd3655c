-- The tables of a slice, as they grow set by set and value by value.
use Rattle.std.proofs.Common.{inl, inr, ◌≡◌, ℕ, zero, suc, ◌+◌, ◌-◌, ◌^◌, ◌<◌, ◌≤◌, Bool, true, false, List, [], ◌∷◌, ◌++◌, Option, Some, None, map}
use Rattle.std.proofs.Common.{length, get_or, replicate, nat_lt, ◌∙◌, refl, sym, subst, ap, arith, zero-add, length-append}
use Rattle.std.specs.Prelude.{◌==◌, slice_set, if◌then◌else◌}
use Rattle.std.specs.Option.{option_map_or}
use Rattle.std.specs.List.{filter, list_any, range_with_len}
use Rattle.std.proofs.lemmas.Bool.{cases_eq, cases_lt, cases_Bool}
use Rattle.std.proofs.lemmas.Bool.Decides.{nat_tests}
use Rattle.std.proofs.lemmas.List.{append-nil, ext_get_or, get_or-map, length-map, get_or_append_left, get_or_push, get_or-set_same, get_or-set_other, length-set}
use Rattle.std.proofs.lemmas.List.Elements.{filter-append}
use Rattle.std.proofs.lemmas.List.FromFn.{get_or-map-range_with_len, length-map-range_with_len, length-range_with_len, map-range_with_len_more}
use Rattle.std.proofs.lemmas.List.Sums.{count_by-le-length, length-filter}
use Rattle.std.proofs.Math.Bool.{and-true, and-false}
use Rattle.value_text.proofs.ListLemmas.{range_with_len_more}
use Rattle.cov_model.specs.declared.slice.Slice.{Slice}
use Rattle.cov_model.specs.believed.Sound.{ModelView}
use Rattle.cov_model.specs.believed.Valid.{param_numbers}
use Rattle.definitions.specs.believed.Demand.{demanded_sets}
use Rattle.definitions.specs.SliceRows.{IsSliceOf}
use Rattle.tuple_index.specs.Kept.{IsKept}
use Rattle.tuple_index.specs.Plan.{plan_of}
use Rattle.tuple_index.specs.Places.{place_of}
use Rattle.tuple_index.proofs.ListingLemmas.{map_same}
use Rattle.uncovered_table.specs.declared.block.Block.{Block}
use Rattle.uncovered_table.specs.Bits.{bit_of, first_bit, sets_in_play, tuple_count}
use Rattle.uncovered_table.specs.Digits.{digit_of}
use Rattle.uncovered_table.specs.Kept.{AreBegins, IsBlock, play_column, with_set}
use Rattle.uncovered_table.specs.Places.{ends_with_column, is_place, set_at, slice_places}
use Rattle.uncovered_table.proofs.BitLemmas.{bit_known, bits_before, first_bit_more}
use Rattle.uncovered_table.proofs.ColumnLemmas.{filter_no, filter_yes}
use Rattle.uncovered_table.proofs.GainLemmas.{in_play_with}
use Rattle.uncovered_table.proofs.PlaceLemmas.{places_few}

-- the bits of a set are few
pub bits_few : (m : ModelView) (slice : Slice) (set : ℕ) → IsKept (plan_of m) → IsSliceOf m slice → set < length (demanded_sets m)
    → first_bit m slice set + tuple_count m slice set ≤ 2 ^ 26
bits_few m slice set kept own exists = omega (arith, bits_before m slice set (length (demanded_sets m)) exists, places_few m slice kept own)

-- where the bits of no set begin
pub begins_none : (m : ModelView) (slice : Slice) → AreBegins m slice 0 (0 ∷ [])
begins_none m slice = record {
  many = refl;
  each = λ s other within. let none : 0 ≡ s = omega (arith, within) in subst (λ k. get_or (0 ∷ []) k other ≡ first_bit m slice k) none refl;
}

-- where the bits begin, with those of one set more
pub begins_more : (m : ModelView) (slice : Slice) (set end : ℕ) (begins : List ℕ) → AreBegins m slice set begins → end ≡ first_bit m slice (set + 1)
    → AreBegins m slice (set + 1) (begins ++ end ∷ [])
begins_more m slice set end begins so_far this = record {
  many = length-append begins (end ∷ []) ∙ ap (λ n. n + 1) so_far.many;
  each = λ s other within. elim (cases_lt s (set + 1)) [
    | inl before ↦ get_or_append_left begins (end ∷ []) other s (omega (arith, before, so_far.many)) ∙ so_far.each s other (omega (arith, before))
    | inr least ↦
        let here : set + 1 ≡ s = omega (arith, least, within) in
        get_or_push begins end other s (so_far.many ∙ here) ∙ this ∙ ap (first_bit m slice) here
  ];
}

-- the sets in play for a column among the first ones
abbrev pub first_in_play : ModelView → Slice → ℕ → ℕ → List ℕ
first_in_play m slice n column = filter (in_play_with m slice column) (range_with_len 0 n)

pub no_sets : (m : ModelView) (slice : Slice) (a n : ℕ) → replicate n [] ≡ map (first_in_play m slice 0) (range_with_len a n)
no_sets m slice a zero = refl
no_sets m slice a (suc n) = ap (λ lists. [] ∷ lists) (no_sets m slice (a + 1) n)

-- a set is in play for the column that it has, and for no other
abbrev is_column : Option ℕ → ℕ → Bool
is_column o column = option_map_or (λ q. q == column) o false

by_column : (m : ModelView) (slice : Slice) (set column : ℕ) → in_play_with m slice column set ≡ is_column (play_column m slice set) column
by_column m slice set column =
    elim (cases_Bool (nat_lt 0 (tuple_count m slice set))) [
      | inl filled ↦ rw filled (and-true (ends_with_column m slice column (set_at m set)))
      | inr empty ↦ rw empty (and-false (ends_with_column m slice column (set_at m set)))
    ]

one_more : (m : ModelView) (slice : Slice) (set column : ℕ) → first_in_play m slice (set + 1) column
    ≡ first_in_play m slice set column ++ (if is_column (play_column m slice set) column then set ∷ [] else [])
one_more m slice set column =
    let f = in_play_with m slice column in
    ap (filter f) (range_with_len_more 0 set ∙ ap (λ k. range_with_len 0 set ++ k ∷ []) (zero-add set)) ∙ filter-append f (range_with_len 0 set) (set ∷ [])
    ∙ ap (λ b. filter f (range_with_len 0 set) ++ (if b then set ∷ [] else [])) (by_column m slice set column)

pub sets_more : (m : ModelView) (slice : Slice) (set : ℕ) → with_set (play_column m slice set) set (map (first_in_play m slice set) (param_numbers m))
    ≡ map (first_in_play m slice (set + 1)) (param_numbers m)
sets_more m slice set = by_option (play_column m slice set) (one_more m slice set)
  where
    count : ℕ
    count = length m.params

    by_option : (o : Option ℕ) → ((column : ℕ) → first_in_play m slice (set + 1) column ≡ first_in_play m slice set column
        ++ (if is_column o column then set ∷ [] else []))
        → with_set o set (map (first_in_play m slice set) (param_numbers m)) ≡ map (first_in_play m slice (set + 1)) (param_numbers m)
    by_option None more = map_same (first_in_play m slice set) (first_in_play m slice (set + 1)) (param_numbers m)
        (λ column. sym (more column ∙ append-nil (first_in_play m slice set column)))
    by_option (Some p) more =
        let before = map (first_in_play m slice set) (param_numbers m) in
        let after = map (first_in_play m slice (set + 1)) (param_numbers m) in
        let changed = slice_set before p (get_or before p [] ++ set ∷ []) in
        let long : length before ≡ length m.params = length-map-range_with_len (first_in_play m slice set) 0 (length m.params) in
        let also : length after ≡ length m.params = length-map-range_with_len (first_in_play m slice (set + 1)) 0 (length m.params) in
        let same_long : length changed ≡ length before = length-set before p (get_or before p [] ++ set ∷ []) in
        ext_get_or [] changed after (same_long ∙ long ∙ sym also)
        (λ i within.
        let inside : i < length m.params = omega (arith, within, same_long, long) in
        let was : get_or before i [] ≡ first_in_play m slice set i = get_or-map-range_with_len (first_in_play m slice set) 0 (length m.params) i i [] inside
        (zero-add i) in
        let is : get_or after i [] ≡ first_in_play m slice (set + 1) i =
        get_or-map-range_with_len (first_in_play m slice (set + 1)) 0 (length m.params) i i [] inside (zero-add i) in
        elim (cases_eq i p) [
          | inl here ↦
              let test : (p == i) ≡ true = grind (arith, nat_tests) in
              let own : p < length before = omega (arith, here, inside, long) in
              ap (λ k. get_or changed k []) here ∙ get_or-set_same before p (get_or before p [] ++ set ∷ []) [] own
              ∙ ap (λ k. get_or before k [] ++ set ∷ []) (sym here) ∙ ap (λ list. list ++ set ∷ []) was
              ∙ ap (λ b. first_in_play m slice set i ++ (if b then set ∷ [] else [])) (sym test) ∙ sym (more i) ∙ sym is
          | inr apart ↦
              let test : (p == i) ≡ false = grind (arith, nat_tests) in
              get_or-set_other before p i (get_or before p [] ++ set ∷ []) [] apart ∙ was ∙ sym (append-nil (first_in_play m slice set i))
              ∙ ap (λ b. first_in_play m slice set i ++ (if b then set ∷ [] else [])) (sym test) ∙ sym (more i) ∙ sym is
        ])

-- the digit of a value is the number of the values before it that are the slice's too
pub digit_passing : (f : ℕ → Bool) (n v : ℕ) → v < n → digit_of (filter f (range_with_len 0 n)) v
    ≡ (if f v then Some (length (filter f (range_with_len 0 v))) else None)
digit_passing f n v below =
    let values = filter f (range_with_len 0 n) in
    elim (cases_Bool (f v)) [
      | inl passing ↦
          let at = place_passing f 0 v n v (zero-add v) passing below in
          let least = at.1 in
          let inside : nat_lt (place_of values v) (length values) ≡ true = grind (arith, nat_tests) in
          ap (λ b. if b then Some (place_of values v) else None) inside ∙ ap Some at.0
          ∙ ap (λ b. if b then Some (length (filter f (range_with_len 0 v))) else None) (sym passing)
      | inr fails ↦
          let past = place_failing f 0 n v fails in
          let outside : nat_lt (place_of values v) (length values) ≡ false = grind (arith, nat_tests) in
          ap (λ b. if b then Some (place_of values v) else None) outside ∙ ap (λ b. if b then Some (length (filter f (range_with_len 0 v))) else None)
          (sym fails)
    ]
  where
    place_failing : (f : ℕ → Bool) (a n v : ℕ) → f v ≡ false → place_of (filter f (range_with_len a n)) v ≡ length (filter f (range_with_len a n))
    place_failing f a zero v fails = refl
    place_failing f a (suc n) v fails =
        let rest = place_failing f (a + 1) n v fails in
        elim (cases_Bool (f a)) [
          | inl passing ↦
              let differs : (a == v) ≡ false = elim (cases_eq a v) [
                | inl same ↦ absurd (true_false (sym passing ∙ ap f same ∙ fails))
                | inr apart ↦ grind
                    (arith, nat_tests)
              ] in
              let more : length (filter f (range_with_len (a + 1) n)) + 1 ≡ suc (length (filter f (range_with_len (a + 1) n))) = omega arith in
              let opened = filter_yes f a (range_with_len (a + 1) n) passing in
              ap (λ vs. place_of vs v) opened ∙ ap (λ b. if b then 0 else place_of (filter f (range_with_len (a + 1) n)) v + 1) differs
              ∙ ap (λ k. k + 1) rest ∙ more
              ∙ ap length (sym opened)
          | inr other ↦ let opened = filter_no f a (range_with_len (a + 1) n) other in ap (λ vs. place_of vs v) opened ∙ rest ∙ ap length (sym opened)
        ]
      where
        true_false : true ≡ false → ⊥
        true_false same = cc

    place_passing : (f : ℕ → Bool) (a k n v : ℕ) → a + k ≡ v → f v ≡ true → k < n
        → (place_of (filter f (range_with_len a n)) v ≡ length (filter f (range_with_len a k)))
        × (place_of (filter f (range_with_len a n)) v < length (filter f (range_with_len a n)))
    place_passing f a k zero v at passing below = absurd (omega (arith, below))
    place_passing f a zero (suc n) v at passing below =
        let here : a ≡ v = omega (arith, at) in
        let test : (a == v) ≡ true = grind (arith, nat_tests) in
        let opened = filter_yes f a (range_with_len (a + 1) n) (ap f here ∙ passing) in
        let place : place_of (filter f (range_with_len a (suc n))) v ≡ 0 =
        ap (λ vs. place_of vs v) opened ∙ ap (λ b. if b then 0 else place_of (filter f (range_with_len (a + 1) n)) v + 1) test in
        (place, omega (arith, place, ap length opened))
    place_passing f a (suc k) (suc n) v at passing below =
        let rest = place_passing f (a + 1) k n v (omega (arith, at)) passing (omega (arith, below)) in
        let differs : (a == v) ≡ false = grind (arith, nat_tests) in
        elim (cases_Bool (f a)) [
          | inl also ↦
              let opened = filter_yes f a (range_with_len (a + 1) n) also in
              let front = filter_yes f a (range_with_len (a + 1) k) also in
              let place : place_of (filter f (range_with_len a (suc n))) v ≡ place_of (filter f (range_with_len (a + 1) n)) v + 1 =
              ap (λ vs. place_of vs v) opened ∙ ap (λ b. if b then 0 else place_of (filter f (range_with_len (a + 1) n)) v + 1) differs in
              (omega (arith, place, rest.0, ap length front), omega (arith, place, rest.1, ap length opened))
          | inr other ↦
              let opened = filter_no f a (range_with_len (a + 1) n) other in
              let front = filter_no f a (range_with_len (a + 1) k) other in
              let place = ap (λ vs. place_of vs v) opened in
              (place ∙ rest.0 ∙ sym (ap length front), omega (arith, place, rest.1, ap length opened))
        ]

-- one value more
pub digits_more : (f : ℕ → Bool) (n v next : ℕ) (own : Bool) (digits longer : List (Option ℕ)) → v < n → own ≡ f v
    → next ≡ length (filter f (range_with_len 0 v))
    → longer ≡ digits ++ (if own then Some next else None) ∷ [] → digits ≡ map (digit_of (filter f (range_with_len 0 n))) (range_with_len 0 v)
    → longer ≡ map (digit_of (filter f (range_with_len 0 n))) (range_with_len 0 (v + 1))
digits_more f n v next own digits longer below is so_far pushed same =
    let values = filter f (range_with_len 0 n) in
    pushed ∙ ap (λ b. digits ++ (if b then Some next else None) ∷ []) is ∙ ap (λ k. digits ++ (if f v then Some k else None) ∷ []) so_far
    ∙ ap (λ o. digits ++ o ∷ []) (sym (digit_passing f n v below)) ∙ ap (λ ds. ds ++ digit_of values v ∷ []) same
    ∙ sym (map-range_with_len_more (digit_of values) 0 v v (zero-add v))

pub next_more : (f : ℕ → Bool) (v next : ℕ) (own : Bool) → own ≡ f v → next ≡ length (filter f (range_with_len 0 v))
    → next + (if own then 1 else 0) ≡ length (filter f (range_with_len 0 (v + 1)))
next_more f v next own is so_far =
    let one : length (if f v then v ∷ [] else []) ≡ (if f v then 1 else 0) = by_test (f v) in
    ap (λ b. next + (if b then 1 else 0)) is ∙ ap (λ k. next + k) (sym one) ∙ ap (λ k. k + length (if f v then v ∷ [] else [])) so_far
    ∙ sym (length-append (filter f (range_with_len 0 v)) (if f v then v ∷ [] else []))
    ∙ ap length (sym (filter-append f (range_with_len 0 v) (v ∷ []))
    ∙ ap (filter f) (sym (range_with_len_more 0 v ∙ ap (λ k. range_with_len 0 v ++ k ∷ []) (zero-add v))))
  where
    by_test : (b : Bool) → length (if b then v ∷ [] else []) ≡ (if b then 1 else 0)
    by_test true = refl
    by_test false = refl

-- lists that are those of a table
pub lists_long : {V X : Type 0} (items : V → List X) (f : ℕ → List X) (n : ℕ) (lists : List V) → map items lists ≡ map f (range_with_len 0 n) → length lists ≡ n
lists_long items f n lists same = sym (length-map lists items) ∙ ap length same ∙ length-map-range_with_len f 0 n

-- a list that is read from a table of lists
pub read_list : {V X : Type 0} (items : V → List X) (f : ℕ → List X) (n p : ℕ) (lists : List V) (list : V) → map items lists ≡ map f (range_with_len 0 n)
    → p < n
    → list ≡ get_or lists p list → items list ≡ f p
read_list items f n p lists list same within read =
    ap items read ∙ sym (get_or-map items lists p list [] (omega (arith, within, lists_long items f n lists same)))
    ∙ ap (λ ls. get_or ls p []) same ∙ get_or-map-range_with_len f 0 n p p [] within (zero-add p)

-- the bit of a place by the block of its set
pub record BlockBit (m : ModelView) (slice : Slice) (set rank : ℕ) (block : Block) : Type 0 where
  pub least : block.start ≤ rank
  pub value : block.first + (rank - block.start) ≡ bit_of m slice (set, rank)
  pub within : block.first + (rank - block.start) < length (slice_places m slice)
  pub few : length (slice_places m slice) ≤ 2 ^ 26

pub block_bit : (m : ModelView) (slice : Slice) (set rank : ℕ) (block : Block) → IsKept (plan_of m) → IsSliceOf m slice → IsBlock m slice set block
    → list_any (is_place (set, rank)) (slice_places m slice) ≡ true → BlockBit m slice set rank block
block_bit m slice set rank block kept own is listed =
    let known = bit_known m slice (set, rank) listed in
    let some : 0 < block.count = omega (arith, is.count, known.first, known.below) in
    let start = is.start some in
    let value : block.first + (rank - block.start) ≡ bit_of m slice (set, rank) = ap (λ f. f + (rank - block.start)) is.first
    ∙ ap (λ s. first_bit m slice set + (rank - s)) start in
    record {
      least = omega (arith, start, known.least);
      value = value;
      within = omega (arith, value, known.within);
      few = places_few m slice kept own;
    }

-- the sets in play are few
pub play_few : (m : ModelView) (slice : Slice) (column : ℕ) → IsKept (plan_of m) → length (sets_in_play m slice column) ≤ 2 ^ 20
play_few m slice column kept =
    let sets = range_with_len 0 (length (demanded_sets m)) in
    omega (
      arith,
      length-filter (in_play_with m slice column) sets,
      count_by-le-length (in_play_with m slice column) sets,
      length-range_with_len 0 (length (demanded_sets m)),
      kept.few,
    )

-- the last block ends where the bits do
pub last_block : (m : ModelView) (slice : Slice) (sets : ℕ) (block : Block) → sets ≡ length (demanded_sets m) → 0 < sets → IsBlock m slice (sets - 1) block
    → block.first + block.count ≡ length (slice_places m slice)
last_block m slice sets block all some is =
    let more = first_bit_more m slice (sets - 1) in
    let plain : sets - 1 + 1 ≡ length (demanded_sets m) = omega (arith, all, some) in
    let end = ap (first_bit m slice) plain in
    omega (arith, is.first, is.count, more, end)
