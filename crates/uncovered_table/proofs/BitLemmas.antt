-- The bits of the places of a slice: each place has one of its own, in order.
use Rattle.std.proofs.Common.{inl, inr, ◌≡◌, ℕ, zero, suc, ◌+◌, ◌-◌, ◌<◌, ◌≤◌, Bool, true, ◌||◌, List, [], ◌∷◌, ◌++◌, All, map, length, ◌∙◌, refl, subst, ap, arith, zero-add, length-append}
use Rattle.std.specs.Prelude.{if◌then◌else◌}
use Rattle.std.specs.List.{filter, flat_map, list_any, range_with_len}
use Rattle.std.proofs.lemmas.Bool.{cases_lt}
use Rattle.std.proofs.lemmas.Bool.Decides.{nat_tests}
use Rattle.std.proofs.lemmas.List.{append-nil}
use Rattle.std.proofs.lemmas.List.Concat.{flat_map-append}
use Rattle.std.proofs.lemmas.List.Elements.{All-head, All-tail}
use Rattle.std.proofs.lemmas.List.FromFn.{length-map-range_with_len}
use Rattle.std.proofs.Math.Bool.{or-true}
use Rattle.value_text.proofs.ListLemmas.{range_with_len_more}
use Rattle.cov_model.specs.declared.slice.Slice.{Slice}
use Rattle.cov_model.specs.believed.Sound.{ModelView}
use Rattle.definitions.specs.believed.Demand.{demanded_sets}
use Rattle.uncovered_table.specs.Bits.{bit_of, first_bit, tuple_count}
use Rattle.uncovered_table.specs.Places.{is_place, places_in, set_at, slice_places, slice_start}
use Rattle.uncovered_table.proofs.ChoiceLemmas.{any_listed}
use Rattle.uncovered_table.proofs.PlaceLemmas.{same_place, stands_at}

-- the first bit of the next set
pub first_bit_more : (m : ModelView) (slice : Slice) (set : ℕ) → first_bit m slice (set + 1) ≡ first_bit m slice set + tuple_count m slice set
first_bit_more m slice set =
    ap (λ sets. length (flat_map (places_in m slice) sets)) (range_with_len_more 0 set ∙ ap (λ k. range_with_len 0 set ++ k ∷ []) (zero-add set))
    ∙ ap length (flat_map-append (places_in m slice) (range_with_len 0 set) (set ∷ []) ∙ ap (λ ps. flat_map (places_in m slice) (range_with_len 0 set) ++ ps)
    (append-nil (places_in m slice set)))
    ∙ length-append (flat_map (places_in m slice) (range_with_len 0 set)) (places_in m slice set)
    ∙ ap (λ n. first_bit m slice set + n) (length-map-range_with_len (λ rank. (set, rank)) (slice_start m (set_at m set) slice) (tuple_count m slice set))

-- the bits of a set lie before those of the sets behind it
bits_after : (m : ModelView) (slice : Slice) (set n : ℕ) → first_bit m slice set + tuple_count m slice set ≤ first_bit m slice (set + 1 + n)
bits_after m slice set zero =
    let plain : set + 1 + 0 ≡ set + 1 = omega arith in
    let same = ap (first_bit m slice) plain in
    omega (arith, first_bit_more m slice set, same)
bits_after m slice set (suc n) =
    let plain : set + 1 + suc n ≡ set + 1 + n + 1 = omega arith in
    let same = ap (first_bit m slice) plain in
    omega (arith, bits_after m slice set n, first_bit_more m slice (set + 1 + n), same)

pub bits_before : (m : ModelView) (slice : Slice) (set later : ℕ) → set < later → first_bit m slice set + tuple_count m slice set ≤ first_bit m slice later
bits_before m slice set later less =
    let plain : set + 1 + (later - set - 1) ≡ later = omega arith in
    let same = ap (first_bit m slice) plain in
    omega (arith, bits_after m slice set (later - set - 1), same)

-- a number below the count of a set gives a place of the slice
one_rank : (set start count j : ℕ) → j < count → list_any (is_place (set, start + j)) (map (λ rank. (set, rank)) (range_with_len start count)) ≡ true
one_rank set start zero j below = absurd (omega (arith, below))
one_rank set start (suc count) zero below =
    let plain : start + 0 ≡ start = omega arith in
    let test : is_place (set, start + 0) (set, start) ≡ true = ap (λ r. is_place (set, r) (set, start)) plain ∙ same_place (set, start) in
    ap (λ b. b || list_any (is_place (set, start + 0)) (map (λ rank. (set, rank)) (range_with_len (start + 1) count))) test
one_rank set start (suc count) (suc j) below =
    let plain : start + 1 + j ≡ start + suc j = omega arith in
    let rest = subst (λ r. list_any (is_place (set, r)) (map (λ rank. (set, rank)) (range_with_len (start + 1) count)) ≡ true) plain
    (one_rank set (start + 1) count j (omega (arith, below))) in
    ap (λ b. is_place (set, start + suc j) (set, start) || b) rest ∙ or-true (is_place (set, start + suc j) (set, start))

pub place_listed : (m : ModelView) (slice : Slice) (set j : ℕ) → set < length (demanded_sets m) → j < tuple_count m slice set
    → list_any (is_place (set, slice_start m (set_at m set) slice + j)) (slice_places m slice) ≡ true
place_listed m slice set j exists below =
    any_listed (is_place (set, slice_start m (set_at m set) slice + j)) (places_in m slice) 0 (length (demanded_sets m)) set (omega arith)
    (omega (arith, exists))
    (one_rank set (slice_start m (set_at m set) slice) (tuple_count m slice set) j below)

-- what is known of the bit of a place
pub record BitKnown (m : ModelView) (slice : Slice) (place : ℕ × ℕ) : Type 0 where
  pub exists : place.0 < length (demanded_sets m)
  pub least : slice_start m (set_at m place.0) slice ≤ place.1
  pub first : first_bit m slice place.0 ≤ bit_of m slice place
  pub below : bit_of m slice place < first_bit m slice place.0 + tuple_count m slice place.0
  pub within : bit_of m slice place < length (slice_places m slice)

pub bit_known : (m : ModelView) (slice : Slice) (place : ℕ × ℕ) → list_any (is_place place) (slice_places m slice) ≡ true → BitKnown m slice place
bit_known m slice place listed =
    let stands = stands_at m slice place.0 place.1 listed in
    let all = bits_before m slice place.0 (length (demanded_sets m)) stands.exists in
    record {
      exists = stands.exists;
      least = stands.least;
      first = omega arith;
      below = omega (arith, stands.least, stands.below);
      within = omega (arith, stands.least, stands.below, all);
    }

-- two places have two bits
pub same_bit : (m : ModelView) (slice : Slice) (a b : ℕ × ℕ) → BitKnown m slice a → BitKnown m slice b → bit_of m slice a ≡ bit_of m slice b → a ≡ b
same_bit m slice a b first second same =
    elim (cases_lt a.0 b.0) [
      | inl less ↦ absurd (omega (arith, first.below, second.first, same, bits_before m slice a.0 b.0 less))
      | inr most ↦ elim (cases_lt b.0 a.0) [
        | inl less ↦ absurd (omega (arith, second.below, first.first, same, bits_before m slice b.0 a.0 less))
        | inr least ↦
            let set : a.0 ≡ b.0 = omega (arith, most, least) in
            let start : slice_start m (set_at m a.0) slice ≡ slice_start m (set_at m b.0) slice = ap (λ s. slice_start m (set_at m s) slice) set in
            let bit : first_bit m slice a.0 ≡ first_bit m slice b.0 = ap (first_bit m slice) set in
            let rank : a.1 ≡ b.1 = omega (arith, first.least, second.least, start, bit, same) in
            ap (λ s. (s, a.1)) set ∙ ap (λ r. (b.0, r)) rank
      ]
    ]

-- two places as a test
pub same_places : (a b : ℕ × ℕ) → is_place a b ≡ true → a ≡ b
same_places a b same =
    let first : a.0 ≡ b.0 = grind (arith, nat_tests) in
    let second : a.1 ≡ b.1 = grind (arith, nat_tests) in
    ap (λ s. (s, a.1)) first ∙ ap (λ r. (b.0, r)) second

-- tests that agree on the items of a list
pub filter_within : {X : Type 0} (f g : X → Bool) (xs : List X) → All (λ x. f x ≡ g x) xs → filter f xs ≡ filter g xs
filter_within f g [] same = refl
filter_within f g (x ∷ xs) same =
    let here = All-head (λ x. f x ≡ g x) x xs same in
    ap (λ b. if b then x ∷ filter f xs else filter f xs) here
    ∙ ap (λ ys. if g x then x ∷ ys else ys) (filter_within f g xs (All-tail (λ x. f x ≡ g x) x xs same))
