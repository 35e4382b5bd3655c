-- The tuples that cells contain with a value in a column.
use Rattle.std.proofs.Common.{inl, inr, ◌≡◌, ℕ, zero, suc, ◌+◌, ◌-◌, ◌*◌, ◌<◌, ◌≤◌, Bool, true, false, ◌||◌, List, [], ◌∷◌, Option, Some, None, All}
use Rattle.std.proofs.Common.{drop, length, filter, get_or, sum_by, ◌∙◌, refl, sym, subst, ap, arith, zero-add, add-one}
use Rattle.std.specs.Prelude.{◌==◌, IfSome, nat_lt, option_and_then, option_map, if◌then◌else◌}
use Rattle.std.proofs.lemmas.Bool.{cases_Bool, cases_eq, false≢true}
use Rattle.std.proofs.lemmas.Bool.Decides.{nat_tests}
use Rattle.std.proofs.lemmas.List.{get_or-drop, get_or-set_same, get_or-set_other, length-set}
use Rattle.std.proofs.lemmas.List.Elements.{All-drop, All-from_get_or, All-head, All-map, All-tail, All-weaker}
use Rattle.std.specs.List.{range_with_len}
use Rattle.std.proofs.lemmas.List.FromFn.{get_or-map-range_with_len, length-map-range_with_len, length-range_with_len}
use Rattle.value_text.proofs.ListLemmas.{length-filter-le}
use Rattle.std.proofs.lemmas.List.Sums.{sum_by-cons}
use Rattle.cov_model.specs.declared.slice.Slice.{Slice}
use Rattle.cov_model.specs.believed.Sound.{ModelView, param_at}
use Rattle.cov_model.specs.believed.Slices.{value_numbers}
use Rattle.cov_model.specs.believed.Rows.{with_value}
use Rattle.definitions.specs.believed.Demand.{is_among}
use Rattle.definitions.specs.SliceRows.{IsSliceOf}
use Rattle.tuple_index.specs.Kept.{IsKept}
use Rattle.tuple_index.specs.Places.{place_of, ways}
use Rattle.tuple_index.specs.Plan.{plan_of}
use Rattle.uncovered_table.specs.declared.block.Line.{Line}
use Rattle.uncovered_table.specs.Bits.{InPlay, all_cleared, bit_count, cleared, first_bit, held_bit, held_count, line_bit, marked, sets_in_play, value_held}
use Rattle.uncovered_table.specs.Digits.{HasAllValues, cell_digit, digit_of, is_own, joined, number_of, own_values, with_digit}
use Rattle.uncovered_table.specs.Kept.{digits_of}
use Rattle.uncovered_table.specs.Open.{gain}
use Rattle.uncovered_table.specs.Places.{set_at}
use Rattle.uncovered_table.proofs.ChoiceLemmas.{own_passing}
use Rattle.uncovered_table.proofs.ColumnLemmas.{filter_no, filter_yes}
use Rattle.uncovered_table.proofs.DigitLemmas.{digit_below, same_number, joined-None}
use Rattle.uncovered_table.proofs.GainLemmas.{all_in_play, held_sum}
use Rattle.uncovered_table.proofs.LineLemmas.{column_among}

-- a member without a digit leaves no number
pub member_none : (values : ℕ → List ℕ) (digits : ℕ → Option ℕ) (set : List ℕ) (p : ℕ) → is_among set p ≡ true → digits p ≡ None → number_of values digits set
    ≡ None
member_none values digits [] p among none = absurd (false≢true among)
member_none values digits (q ∷ set) p among none =
    elim (cases_eq q p) [
      | inl here ↦ ap (λ o. joined o (ways values set) (number_of values digits set)) (ap digits here ∙ none)
      | inr apart ↦
          let test : (q == p) ≡ false = grind (arith, nat_tests) in
          ap (joined (digits q) (ways values set)) (member_none values digits set p (subst (λ b. (b || is_among set p) ≡ true) test among) none)
          ∙ joined-None (digits q) (ways values set)
    ]

pub held_none : (m : ModelView) (slice : Slice) (digits : ℕ → Option ℕ) (column set : ℕ) → InPlay m slice column set → digits column ≡ None
    → held_bit m slice digits set ≡ None
held_none m slice digits column set play none =
    ap (option_map (λ n. first_bit m slice set + n)) (member_none (own_values m slice) digits (set_at m set) column (column_among m slice column set play) none)

pub held_same : (m : ModelView) (slice : Slice) (f g : ℕ → Option ℕ) (set : ℕ) → ((p : ℕ) → f p ≡ g p) → held_bit m slice f set ≡ held_bit m slice g set
held_same m slice f g set same = ap (option_map (λ n. first_bit m slice set + n)) (same_number (own_values m slice) f g (set_at m set) same)

-- the digits with a value in a column, and the digits of the cells themselves
given_digit : (values : ℕ → List ℕ) (cells : List (Option ℕ)) (column v p : ℕ) → column < length cells
    → cell_digit values (with_value cells column v) p ≡ (if p == column then digit_of (values column) v else cell_digit values cells p)
given_digit values cells column v p within =
    elim (cases_eq p column) [
      | inl here ↦
          let test : (p == column) ≡ true = grind (arith, nat_tests) in
          ap (cell_digit values (with_value cells column v)) here ∙ ap (λ o. option_and_then (digit_of (values column)) o)
          (get_or-set_same cells column (Some v) None within)
          ∙ ap (λ b. if b then digit_of (values column) v else cell_digit values cells p) (sym test)
      | inr apart ↦
          let test : (p == column) ≡ false = grind (arith, nat_tests) in
          ap (λ o. option_and_then (digit_of (values p)) o) (get_or-set_other cells column p (Some v) None apart)
          ∙ ap (λ b. if b then digit_of (values column) v else cell_digit values cells p) (sym test)
    ]

own_digit : (values : ℕ → List ℕ) (cells : List (Option ℕ)) (column d p : ℕ) → cell_digit values cells column ≡ Some d
    → with_digit (cell_digit values cells) column d p ≡ cell_digit values cells p
own_digit values cells column d p is =
    elim (cases_eq p column) [
      | inl here ↦
          let test : (p == column) ≡ true = grind (arith, nat_tests) in
          ap (λ b. if b then Some d else cell_digit values cells p) test ∙ sym is ∙ ap (cell_digit values cells) (sym here)
      | inr apart ↦
          let test : (p == column) ≡ false = grind (arith, nat_tests) in
          ap (λ b. if b then Some d else cell_digit values cells p) test
    ]

-- sums of numbers that agree on the items
sum_within : (f g : ℕ → ℕ) (xs : List ℕ) → All (λ x. f x ≡ g x) xs → sum_by f xs ≡ sum_by g xs
sum_within f g [] same = refl
sum_within f g (x ∷ xs) same =
    let here = All-head (λ x. f x ≡ g x) x xs same in
    let rest = sum_within f g xs (All-tail (λ x. f x ≡ g x) x xs same) in
    omega (arith, sum_by-cons f x xs, sum_by-cons g x xs, here, rest)

-- the gain of a value, set by set
pub gain_is : (m : ModelView) (slice : Slice) (bits : List Bool) (cells : List (Option ℕ)) (column v : ℕ) → IsKept (plan_of m) → IsSliceOf m slice
    → length cells ≡ length m.params
    → column < length m.params → sum_by (value_held m slice bits cells column v) (sets_in_play m slice column) ≡ gain (marked m slice bits) cells column v
gain_is m slice bits cells column v kept own long within =
    let values = own_values m slice in
    let given = with_value cells column v in
    let inside : column < length cells = omega (arith, long, within) in
    sym (held_sum m slice bits given column kept own (length-set cells column (Some v) ∙ long)
    ∙ sum_within (held_count m slice bits (cell_digit values given)) (value_held m slice bits cells column v) (sets_in_play m slice column)
    (All-weaker (InPlay m slice column) (λ set. held_count m slice bits (cell_digit values given) set ≡ value_held m slice bits cells column v set)
    (λ set play. by_digit set play inside (digit_of (values column) v) refl) (sets_in_play m slice column) (all_in_play m slice column)))
  where
    by_digit : (set : ℕ) → InPlay m slice column set → column < length cells → (o : Option ℕ) → digit_of (own_values m slice column) v ≡ o
        → held_count m slice bits (cell_digit (own_values m slice) (with_value cells column v)) set ≡ value_held m slice bits cells column v set
    by_digit set play inside None is =
        let values = own_values m slice in
        let test : (column == column) ≡ true = grind (arith, nat_tests) in
        let none : cell_digit values (with_value cells column v) column ≡ None =
        given_digit values cells column v column inside ∙ ap (λ b. if b then digit_of (values column) v else cell_digit values cells column) test ∙ is in
        ap (bit_count bits) (held_none m slice (cell_digit values (with_value cells column v)) column set play none)
        ∙ ap (λ o. bit_count bits (option_and_then (λ d. held_bit m slice (with_digit (cell_digit values cells) column d) set) o)) (sym is)
    by_digit set play inside (Some d) is =
        let values = own_values m slice in
        ap (bit_count bits) (held_same m slice (cell_digit values (with_value cells column v)) (with_digit (cell_digit values cells) column d) set
        (λ p. given_digit values cells column v p inside ∙ ap (λ o. if p == column then o else cell_digit values cells p) is))
        ∙ ap (λ o. bit_count bits (option_and_then (λ d. held_bit m slice (with_digit (cell_digit values cells) column d) set) o)) (sym is)

-- the gain of a value that has a digit, and of one that has none
sum_same : (f g : ℕ → ℕ) (xs : List ℕ) → ((x : ℕ) → f x ≡ g x) → sum_by f xs ≡ sum_by g xs
sum_same f g [] same = refl
sum_same f g (x ∷ xs) same = (let rest = sum_same f g xs same in omega (arith, sum_by-cons f x xs, sum_by-cons g x xs, same x, rest))

sum_zero : (f : ℕ → ℕ) (xs : List ℕ) → ((x : ℕ) → f x ≡ 0) → sum_by f xs ≡ 0
sum_zero f [] none = refl
sum_zero f (x ∷ xs) none = (let rest = sum_zero f xs none in omega (arith, sum_by-cons f x xs, none x, rest))

pub digit_gain : (m : ModelView) (slice : Slice) (bits : List Bool) (cells : List (Option ℕ)) (column v d : ℕ) (sets : List ℕ)
    → digit_of (own_values m slice column) v ≡ Some d
    → sum_by (held_count m slice bits (with_digit (cell_digit (own_values m slice) cells) column d)) sets ≡ sum_by (value_held m slice bits cells column v) sets
digit_gain m slice bits cells column v d sets is =
    sum_same (held_count m slice bits (with_digit (cell_digit (own_values m slice) cells) column d)) (value_held m slice bits cells column v) sets
    (λ set. ap (λ o. bit_count bits (option_and_then (λ d. held_bit m slice (with_digit (cell_digit (own_values m slice) cells) column d) set) o)) (sym is))

pub no_gain : (m : ModelView) (slice : Slice) (bits : List Bool) (cells : List (Option ℕ)) (column v : ℕ) (sets : List ℕ)
    → digit_of (own_values m slice column) v ≡ None
    → 0 ≡ sum_by (value_held m slice bits cells column v) sets
no_gain m slice bits cells column v sets is =
    sym (sum_zero (value_held m slice bits cells column v) sets
    (λ set. ap (λ o. bit_count bits (option_and_then (λ d. held_bit m slice (with_digit (cell_digit (own_values m slice) cells) column d) set) o)) is))

-- what closing a row clears
pub cleared_same : (m : ModelView) (slice : Slice) (f g : ℕ → Option ℕ) (bits : List Bool) (sets : List ℕ) → ((p : ℕ) → f p ≡ g p)
    → all_cleared m slice f bits sets ≡ all_cleared m slice g bits sets
cleared_same m slice f g bits [] same = refl
cleared_same m slice f g bits (set ∷ sets) same =
    ap (λ o. all_cleared m slice f (cleared o bits) sets) (held_same m slice f g set same)
    ∙ cleared_same m slice f g (cleared (held_bit m slice g set) bits) sets same

pub cleared_own : (m : ModelView) (slice : Slice) (cells : List (Option ℕ)) (bits : List Bool) (column d : ℕ) (sets : List ℕ)
    → cell_digit (own_values m slice) cells column ≡ Some d
    → all_cleared m slice (with_digit (cell_digit (own_values m slice) cells) column d) bits sets
    ≡ all_cleared m slice (cell_digit (own_values m slice) cells) bits sets
cleared_own m slice cells bits column d sets is =
    cleared_same m slice (with_digit (cell_digit (own_values m slice) cells) column d) (cell_digit (own_values m slice) cells) bits sets
    (λ p. own_digit (own_values m slice) cells column d p is)

none_cleared : (m : ModelView) (slice : Slice) (digits : ℕ → Option ℕ) (bits : List Bool) (column : ℕ) (sets : List ℕ) → All (InPlay m slice column) sets
    → digits column ≡ None
    → all_cleared m slice digits bits sets ≡ bits
none_cleared m slice digits bits column [] play none = refl
none_cleared m slice digits bits column (set ∷ sets) play none =
    ap (λ o. all_cleared m slice digits (cleared o bits) sets) (held_none m slice digits column set (All-head (InPlay m slice column) set sets play) none)
    ∙ none_cleared m slice digits bits column sets (All-tail (InPlay m slice column) set sets play) none

pub cleared_none : (m : ModelView) (slice : Slice) (digits : ℕ → Option ℕ) (bits : List Bool) (column : ℕ) → digits column ≡ None
    → bits ≡ all_cleared m slice digits bits (sets_in_play m slice column)
cleared_none m slice digits bits column none = sym (none_cleared m slice digits bits column (sets_in_play m slice column) (all_in_play m slice column) none)

-- one set or none
pub count_most : (bits : List Bool) (o : Option ℕ) → bit_count bits o ≤ 1
count_most bits None = omega arith
count_most bits (Some bit) = by_test (get_or bits bit false)
  where
    by_test : (b : Bool) → (if b then 1 else 0) ≤ 1
    by_test true = omega arith
    by_test false = omega arith

-- a line's bit for a digit is that of the tuple with the digit
pub value_line : (m : ModelView) (slice : Slice) (bits : List Bool) (cells : List (Option ℕ)) (column v set : ℕ) (line : Line)
    → ((d : ℕ) → held_bit m slice (with_digit (cell_digit (own_values m slice) cells) column d) set ≡ Some (line.first + d * line.step))
    → bit_count bits (line_bit line (digit_of (own_values m slice column) v)) ≡ value_held m slice bits cells column v set
value_line m slice bits cells column v set line value = by_digit (digit_of (own_values m slice column) v)
  where
    by_digit : (o : Option ℕ) → bit_count bits (line_bit line o)
        ≡ bit_count bits (option_and_then (λ d. held_bit m slice (with_digit (cell_digit (own_values m slice) cells) column d) set) o)
    by_digit None = refl
    by_digit (Some d) = ap (bit_count bits) (sym (value d))

-- the digits of the values from a given one on
pub digit_from : (m : ModelView) (slice : Slice) (column from i : ℕ) → from + i < length (param_at m.params column).values
    → get_or (drop from (digits_of m slice column)) i None ≡ digit_of (own_values m slice column) (from + i)
digit_from m slice column from i within =
    get_or-drop from (digits_of m slice column) i None
    ∙ get_or-map-range_with_len (digit_of (own_values m slice column)) 0 (length (param_at m.params column).values) (from + i) (from + i) None within
    (zero-add (from + i))

pub digits_long : (m : ModelView) (slice : Slice) (column : ℕ) → length (digits_of m slice column) ≡ length (param_at m.params column).values
digits_long m slice column = length-map-range_with_len (digit_of (own_values m slice column)) 0 (length (param_at m.params column).values)

-- each of these digits has a bit on the line
pub bits_within : (m : ModelView) (slice : Slice) (column from size : ℕ) (line : Line)
    → ((d : ℕ) → d < length (own_values m slice column) → line.first + d * line.step < size)
    → All (λ digit. IfSome digit (λ d. line.first + d * line.step < size)) (drop from (digits_of m slice column))
bits_within m slice column from size line within =
    let values = own_values m slice column in
    All-drop (λ digit. IfSome digit (λ d. line.first + d * line.step < size)) from (digits_of m slice column)
    (All-map (λ digit. IfSome digit (λ d. line.first + d * line.step < size)) (digit_of values) (value_numbers m column)
    (All-from_get_or (λ v. IfSome (digit_of values v) (λ d. line.first + d * line.step < size)) (value_numbers m column) 0
    (λ i inside. by_digit (get_or (value_numbers m column) i 0) (digit_of values (get_or (value_numbers m column) i 0)) refl)))
  where
    by_digit : (v : ℕ) (o : Option ℕ) → digit_of (own_values m slice column) v ≡ o → IfSome o (λ d. line.first + d * line.step < size)
    by_digit v None is = tt
    by_digit v (Some d) is = within d (digit_below (own_values m slice column) v d is)

pub value_most : (m : ModelView) (slice : Slice) (bits : List Bool) (cells : List (Option ℕ)) (column v set : ℕ) → value_held m slice bits cells column v set
    ≤ 1
value_most m slice bits cells column v set =
    count_most bits (option_and_then (λ d. held_bit m slice (with_digit (cell_digit (own_values m slice) cells) column d) set)
    (digit_of (own_values m slice column) v))

-- a parameter with all its values in the slice
filter_full : (f : ℕ → Bool) (xs : List ℕ) → length (filter f xs) ≡ length xs → filter f xs ≡ xs
filter_full f [] full = refl
filter_full f (x ∷ xs) full =
    elim (cases_Bool (f x)) [
      | inl passing ↦
          let opened = filter_yes f x xs passing in
          opened ∙ ap (λ rest. x ∷ rest) (filter_full f xs (omega (arith, full, ap length opened)))
      | inr other ↦ let opened = filter_no f x xs other in absurd (omega (arith, full, ap length opened, length-filter-le f xs))
    ]

place_range : (a n k v : ℕ) → a + k ≡ v → k < n → place_of (range_with_len a n) v ≡ k
place_range a zero k v at below = absurd (omega (arith, below))
place_range a (suc n) zero v at below =
    let test : (a == v) ≡ true = grind (arith, nat_tests) in
    ap (λ b. if b then 0 else place_of (range_with_len (a + 1) n) v + 1) test
place_range a (suc n) (suc k) v at below =
    let rest = place_range (a + 1) n k v (omega (arith, at)) (omega (arith, below)) in
    let differs : (a == v) ≡ false = grind (arith, nat_tests) in
    ap (λ b. if b then 0 else place_of (range_with_len (a + 1) n) v + 1) differs ∙ ap (λ j. j + 1) rest ∙ add-one k

pub all_values : (m : ModelView) (slice : Slice) (p : ℕ) → IsSliceOf m slice → p < length m.params
    → length (own_values m slice p) ≡ length (param_at m.params p).values → HasAllValues m slice p
all_values m slice p own within full v below =
    let n = length (param_at m.params p).values in
    let passing = own_passing m slice p own within in
    let same : own_values m slice p ≡ range_with_len 0 n =
    passing ∙ filter_full (is_own m slice p) (range_with_len 0 n) (sym (ap length passing) ∙ full ∙ sym (length-range_with_len 0 n)) in
    let place = place_range 0 n v v (zero-add v) below in
    let inside : nat_lt (place_of (range_with_len 0 n) v) (length (range_with_len 0 n)) ≡ true = grind (arith, nat_tests, length-range_with_len 0 n) in
    ap (λ values. digit_of values v) same ∙ ap (λ b. if b then Some (place_of (range_with_len 0 n) v) else None) inside ∙ ap Some place

-- bits side by side are those of a line whose digit is the last
pub bits_of_line : (m : ModelView) (slice : Slice) (bits : List Bool) (column from i : ℕ) (line : Line) → HasAllValues m slice column → line.step ≡ 1
    → from + i < length (param_at m.params column).values
    → bit_count bits (Some (line.first + from + i)) ≡ bit_count bits (line_bit line (digit_of (own_values m slice column) (from + i)))
bits_of_line m slice bits column from i line all step below =
    let place : line.first + from + i ≡ line.first + (from + i) * line.step =
    (let e : line.first + from + i ≡ line.first + (from + i) * 1 = grind arith in e) ∙ ap (λ k. line.first + (from + i) * k) (sym step) in
    ap (λ k. bit_count bits (Some k)) place ∙ ap (λ o. bit_count bits (line_bit line o)) (sym (all (from + i) below))

-- they are within the table
pub bits_fit : (m : ModelView) (slice : Slice) (column from count size : ℕ) (line : Line) → HasAllValues m slice column → line.step ≡ 1
    → from + count ≤ length (param_at m.params column).values → 0 < count
    → ((d : ℕ) → d < length (own_values m slice column) → line.first + d * line.step < size) → line.first + from + count ≤ size
bits_fit m slice column from count size line all step below some within =
    let last = from + count - 1 in
    let inside : last < length (own_values m slice column) = digit_below (own_values m slice column) last last (all last (omega (arith, below, some))) in
    let end : line.first + last * 1 < size = subst (λ k. line.first + last * k < size) step (within last inside) in
    omega (arith, end, some)
