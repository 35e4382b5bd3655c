-- The places of a slice: which there are, and how many.
use Rattle.std.proofs.Common.{inl, inr, ◌≡◌, ℕ, zero, suc, ◌+◌, ◌^◌, ◌<◌, ◌≤◌, true, ◌&&◌, ◌||◌, List, [], ◌∷◌, All, map, drop}
use Rattle.std.proofs.Common.{length, get_or, ◌∙◌, refl, sym, subst, ap, arith, zero-add, length-append}
use Rattle.std.specs.Prelude.{◌==◌, Some, sum, slice_get, unwrap_or, if◌then◌else◌}
use Rattle.std.proofs.lemmas.Option.{slice_get_within, slice_get-get_or}
use Rattle.std.specs.List.{flat_map, list_any, range_with_len}
use Rattle.std.proofs.lemmas.Bool.{false≢true, cases_Bool, eq-eqb}
use Rattle.std.proofs.lemmas.Bool.Decides.{nat_tests}
use Rattle.std.proofs.lemmas.List.{at_drop_more}
use Rattle.std.proofs.lemmas.List.Elements.{All-cons, All-get_or, All-nil, All-weaker}
use Rattle.std.proofs.lemmas.List.Folds.{list_any-append}
use Rattle.std.proofs.lemmas.List.FromFn.{length-map-range_with_len}
use Rattle.std.proofs.lemmas.List.Sums.{sum_by-cons}
use Rattle.std.proofs.Math.Bool.{or-true}
use Rattle.cov_model.specs.declared.slice.Slice.{Slice}
use Rattle.cov_model.specs.believed.Sound.{ModelView}
use Rattle.cov_model.specs.believed.Slices.{positive_values}
use Rattle.definitions.specs.believed.Demand.{demanded_sets, tuples_in, tuples_of}
use Rattle.definitions.specs.SliceRows.{IsSliceOf}
use Rattle.tuple_index.specs.Kept.{IsKept}
use Rattle.tuple_index.specs.Plan.{PlanView, plan_of, tuple_cells}
use Rattle.tuple_index.specs.Places.{RisesFrom, has_part, values_in, ways}
use Rattle.tuple_index.proofs.SliceLemmas.{ways_within, within_count}
use Rattle.uncovered_table.specs.Places.{is_place, places_in, set_at, slice_places, slice_start, tuple_at}
use Rattle.uncovered_table.proofs.SliceLemmas.{length-tuples_in, own_slice, start_is}

-- a place is the same as itself
pub same_place : (place : ℕ × ℕ) → is_place place place ≡ true
same_place place = rw (eq-eqb place.0 place.0 refl, eq-eqb place.1 place.1 refl) refl

-- each of a list is one of the list
pub each_listed : (places : List (ℕ × ℕ)) → All (λ place. list_any (is_place place) places ≡ true) places
each_listed [] = All-nil (λ place. list_any (is_place place) [] ≡ true)
each_listed (first ∷ places) =
    All-cons (λ place. list_any (is_place place) (first ∷ places) ≡ true) first places
    (ap (λ b. b || list_any (is_place first) places) (same_place first))
    (All-weaker (λ place. list_any (is_place place) places ≡ true) (λ place. list_any (is_place place) (first ∷ places) ≡ true)
    (λ place later. ap (λ b. is_place place first || b) later ∙ or-true (is_place place first)) places (each_listed places))

-- a member's set rises
pub set_rises : (m : ModelView) (set : ℕ) → IsKept (plan_of m) → set < length (demanded_sets m) → RisesFrom 0 (length m.params) (set_at m set)
set_rises m set kept exists =
    let long : length (map (positive_values m) (range_with_len 0 (length m.params))) ≡ length m.params = length-map-range_with_len (positive_values m) 0
    (length m.params) in
    subst (λ n. RisesFrom 0 n (set_at m set)) long (All-get_or (RisesFrom 0 (length (plan_of m).positives)) (demanded_sets m) set [] exists kept.rising)

-- there are few
each_few : (m : ModelView) (slice : Slice) (n i : ℕ) → IsKept (plan_of m) → IsSliceOf m slice → i + n ≡ length (demanded_sets m)
    → length (flat_map (places_in m slice) (range_with_len i n)) ≤ sum (drop i (plan_of m).sizes)
each_few m slice zero i kept own end = omega arith
each_few m slice (suc n) i kept own end =
    let plan = plan_of m in
    let exists : i < length (demanded_sets m) = omega (arith, end) in
    let rest = each_few m slice n (i + 1) kept own (omega (arith, end)) in
    let here : length (places_in m slice i) ≡ length (tuples_in m (set_at m i) slice) =
    length-map-range_with_len (λ rank. (i, rank)) (slice_start m (set_at m i) slice) (length (tuples_in m (set_at m i) slice)) in
    let long = length-tuples_in m (set_at m i) slice (set_rises m i kept exists) in
    let most = ways_within plan i slice kept exists (own_slice m slice own) in
    let opened : sum (drop i plan.sizes) ≡ get_or plan.sizes i 0 + sum (drop (i + 1) plan.sizes) =
    at_drop_more sum plan.sizes i 0 (omega (arith, kept.as_many, exists)) ∙ sum_by-cons (λ k. k) (get_or plan.sizes i 0) (drop (i + 1) plan.sizes) in
    omega (arith, length-append (places_in m slice i) (flat_map (places_in m slice) (range_with_len (i + 1) n)), here, long, most, rest, opened)

pub places_few : (m : ModelView) (slice : Slice) → IsKept (plan_of m) → IsSliceOf m slice → length (slice_places m slice) ≤ 2 ^ 26
places_few m slice kept own =
    let inside = each_few m slice (length (demanded_sets m)) 0 kept own (zero-add (length (demanded_sets m))) in
    omega (arith, inside, kept.within)

-- which places there are
one_of_ranks : (set s r start count : ℕ) → list_any (is_place (s, r)) (map (λ rank. (set, rank)) (range_with_len start count)) ≡ true
    → (s ≡ set) × (start ≤ r) × (r < start + count)
one_of_ranks set s r start zero one = absurd (false≢true one)
one_of_ranks set s r start (suc count) one =
    elim (cases_Bool (is_place (s, r) (set, start))) [
      | inl here ↦ this here
      | inr other ↦
          let later = one_of_ranks set s r (start + 1) count
          (subst (λ b. (b || list_any (is_place (s, r)) (map (λ rank. (set, rank)) (range_with_len (start + 1) count))) ≡ true) other one) in
          (later.0, omega (arith, later.1), omega (arith, later.2))
    ]
  where
    this : ((s == set) && (r == start)) ≡ true → (s ≡ set) × (start ≤ r) × (r < start + suc count)
    this here = (first here, at_start here, within here)
      where
        first : ((s == set) && (r == start)) ≡ true → s ≡ set
        first here = grind (arith, nat_tests)

        at_start : ((s == set) && (r == start)) ≡ true → start ≤ r
        at_start here = grind (arith, nat_tests)

        within : ((s == set) && (r == start)) ≡ true → r < start + suc count
        within here = grind (arith, nat_tests)

one_of_sets : (m : ModelView) (slice : Slice) (s r i n : ℕ) → list_any (is_place (s, r)) (flat_map (places_in m slice) (range_with_len i n)) ≡ true
    → (i ≤ s) × (s < i + n) × (list_any (is_place (s, r)) (places_in m slice s) ≡ true)
one_of_sets m slice s r i zero one = absurd (false≢true one)
one_of_sets m slice s r i (suc n) one =
    let later = flat_map (places_in m slice) (range_with_len (i + 1) n) in
    let either = sym (list_any-append (is_place (s, r)) (places_in m slice i) later) ∙ one in
    elim (cases_Bool (list_any (is_place (s, r)) (places_in m slice i))) [
      | inl here ↦
          let own = one_of_ranks i s r (slice_start m (set_at m i) slice) (length (tuples_in m (set_at m i) slice)) here in
          (omega (arith, own.0), omega (arith, own.0), subst (λ k. list_any (is_place (s, r)) (places_in m slice k) ≡ true) (sym own.0) here)
      | inr other ↦
          let rest = one_of_sets m slice s r (i + 1) n (subst (λ b. (b || list_any (is_place (s, r)) later) ≡ true) other either) in
          (omega (arith, rest.0), omega (arith, rest.1), rest.2)
    ]

-- a place of the slice is that of a demanded set, with a rank of one of its tuples in the slice
pub record StandsAt (m : ModelView) (slice : Slice) (set rank : ℕ) : Type 0 where
  pub exists : set < length (demanded_sets m)
  pub least : slice_start m (set_at m set) slice ≤ rank
  pub below : rank < slice_start m (set_at m set) slice + length (tuples_in m (set_at m set) slice)

pub stands_at : (m : ModelView) (slice : Slice) (set rank : ℕ) → list_any (is_place (set, rank)) (slice_places m slice) ≡ true → StandsAt m slice set rank
stands_at m slice set rank listed =
    let count = length (demanded_sets m) in
    let one = one_of_sets m slice set rank 0 count listed in
    let own = one_of_ranks set set rank (slice_start m (set_at m set) slice) (length (tuples_in m (set_at m set) slice)) one.2 in
    record { exists = omega (arith, one.1); least = own.1; below = own.2 }

-- what is known of a set
rises_few : (set : List ℕ) (p e : ℕ) → p ≤ e → RisesFrom p e set → p + length set ≤ e
rises_few [] p e le rises = omega (arith, le)
rises_few (q ∷ set) p e le rises = let rest = rises_few set (q + 1) e (omega (arith, rises.1)) rises.2 in omega (arith, rest, rises.0)

pub record SetKnown (m : ModelView) (plan : PlanView) (set : ℕ) : Type 0 where
  pub exists : set < length plan.sets
  pub same : get_or plan.sets set [] ≡ set_at m set
  pub rising : RisesFrom 0 (length m.params) (set_at m set)
  pub few : length (set_at m set) ≤ length m.params

pub set_known : (m : ModelView) (plan : PlanView) (set : ℕ) → plan ≡ plan_of m → IsKept plan → set < length (demanded_sets m) → SetKnown m plan set
set_known m plan set planned kept exists =
    let rises = set_rises m set (subst IsKept planned kept) exists in
    record {
      exists = subst (λ p. set < length p.sets) (sym planned) exists;
      same = ap (λ p. get_or p.sets set []) planned;
      rising = rises;
      few = omega (arith, rises_few (set_at m set) 0 (length m.params) (omega arith) rises);
    }

-- the rank of a place is one of its set's
rank_below : (m : ModelView) (slice : Slice) (set rank : ℕ) → IsKept (plan_of m) → IsSliceOf m slice → StandsAt m slice set rank
    → rank < get_or (plan_of m).sizes set 0
rank_below m slice set rank kept own stands =
    let rises = set_rises m set kept stands.exists in
    let long = length-tuples_in m (set_at m set) slice rises in
    elim (cases_Bool (has_part (set_at m set) slice)) [
      | inl part ↦
          let start = start_is m (set_at m set) slice rises own part in
          let many = ap (λ b. if b then ways (values_in (plan_of m) slice) (set_at m set) else 0) part in
          let inside = within_count (plan_of m) (set_at m set) slice (own_slice m slice own) part in
          omega (arith, stands.below, long, start, many, inside, kept.counted set stands.exists)
      | inr none ↦
          let many = ap (λ b. if b then ways (values_in (plan_of m) slice) (set_at m set) else 0) none in
          absurd (omega (arith, stands.least, stands.below, long, many))
    ]

pub record PlaceKnown (m : ModelView) (plan : PlanView) (set rank : ℕ) : Type 0 where
  pub exists : set < length (demanded_sets m)
  pub known : set < length plan.sets
  pub below : rank < get_or plan.sizes set 0

pub place_known : (m : ModelView) (slice : Slice) (plan : PlanView) (set rank : ℕ) → plan ≡ plan_of m → IsKept plan → IsSliceOf m slice
    → list_any (is_place (set, rank)) (slice_places m slice) ≡ true → PlaceKnown m plan set rank
place_known m slice plan set rank planned kept own listed =
    let stands = stands_at m slice set rank listed in
    record {
      exists = stands.exists;
      known = subst (λ p. set < length p.sets) (sym planned) stands.exists;
      below = subst (λ p. rank < get_or p.sizes set 0) (sym planned) (rank_below m slice set rank (subst IsKept planned kept) own stands);
    }

-- the tuple that stands at a rank
pub tuple_read : (m : ModelView) (plan : PlanView) (set rank : ℕ) (values : List ℕ) → plan ≡ plan_of m
    → slice_get (tuples_of m (get_or plan.sets set [])) rank ≡ Some (tuple_cells m (get_or plan.sets set []) values)
    → tuple_at m (set, rank) ≡ tuple_cells m (set_at m set) values
tuple_read m plan set rank values planned read =
    let same : get_or plan.sets set [] ≡ set_at m set = ap (λ p. get_or p.sets set []) planned in
    let here = subst (λ members. slice_get (tuples_of m members) rank ≡ Some (tuple_cells m members values)) same read in
    let within = slice_get_within (tuples_of m (set_at m set)) rank (tuple_cells m (set_at m set) values) here in
    ap (λ o. unwrap_or o (tuple_cells m (set_at m set) values)) (sym (slice_get-get_or (tuples_of m (set_at m set)) rank [] within) ∙ here)

-- the set of a place exists
pub place_exists : (m : ModelView) (slice : Slice) (place : ℕ × ℕ) → list_any (is_place place) (slice_places m slice) ≡ true
    → place.0 < length (demanded_sets m)
place_exists m slice place listed = (stands_at m slice place.0 place.1 listed).exists
