-- The tuples of a set in a slice are within those of the set.
use Rattle.std.proofs.Common.{inl, inr, ◌≡◌, ℕ, ◌+◌, ◌*◌, ◌^◌, ◌<◌, ◌≤◌, true, false, ◌||◌, List, [], ◌∷◌, length, get_or, sum_by, ◌∙◌, sym, subst, ap, arith}
use Rattle.std.specs.Prelude.{◌==◌, if◌then◌else◌}
use Rattle.std.proofs.lemmas.Bool.{cases_Bool, cases_eq, false≢true}
use Rattle.std.proofs.lemmas.Bool.Decides.{nat_tests}
use Rattle.std.proofs.lemmas.List.Sums.{sum_by-cons}
use Rattle.std.proofs.lemmas.Option.{slice_get_within}
use Rattle.cov_model.specs.declared.slice.Slice.{Slice}
use Rattle.cov_model.specs.declared.slice.Slice.TheVariants.{Positive, Negative}
use Rattle.definitions.specs.believed.Demand.{is_among}
use Rattle.tuple_index.specs.Kept.{IsKept}
use Rattle.tuple_index.specs.Plan.{PlanView, set_at}
use Rattle.tuple_index.specs.Places.{IsOwnSlice, has_part, negatives_of, negative_ways, place_of, start_of, tuple_count, values_in, ways, ways_before, ways_in}
use Rattle.tuple_index.specs.believed.PlanFault.{saturated}
use Rattle.tuple_index.proofs.PlaceLemmas.{slice_get-place_of}
use Rattle.tuple_index.proofs.RankLemmas.{count_within, ways_negative}

-- the tuples with a negative value of a member, and those of the members before
before_within : (plan : PlanView) (set : List ℕ) (q : ℕ) (members : List ℕ) → is_among members q ≡ true
    → ways_before plan set q members + negative_ways plan set q ≤ sum_by (negative_ways plan set) members
before_within plan set q [] among = absurd (false≢true among)
before_within plan set q (p ∷ members) among =
    let opened = sum_by-cons (negative_ways plan set) p members in
    elim (cases_eq p q) [
      | inl here ↦
          let test : (p == q) ≡ true = grind (arith, nat_tests) in
          let same = ap (negative_ways plan set) here in
          rw test (omega (arith, opened, same))
      | inr apart ↦
          let test : (p == q) ≡ false = grind (arith, nat_tests) in
          let rest = before_within plan set q members (subst (λ b. (b || is_among members q) ≡ true) test among) in
          rw test (omega (arith, opened, rest))
    ]

-- one piece more
pub mul-add-le : (k n w : ℕ) → k < n → k * w + w ≤ n * w
mul-add-le k n w less = grind arith

pub within_count : (plan : PlanView) (set : List ℕ) (slice : Slice) → IsOwnSlice plan slice → has_part set slice ≡ true
    → start_of plan set slice + ways (values_in plan slice) set ≤ tuple_count plan set
within_count plan set Positive own part = omega arith
within_count plan set (Negative q v) own part =
    let place = place_of (negatives_of plan q) v in
    let each = ways (values_in plan (Negative q 0)) set in
    let below : place < length (negatives_of plan q) = slice_get_within (negatives_of plan q) place v (slice_get-place_of (negatives_of plan q) v own.1) in
    let inside : place * each + each ≤ negative_ways plan set q = mul-add-le place (length (negatives_of plan q)) each below in
    omega (arith, ways_negative plan q v 0 set, before_within plan set q set part, inside)

-- so they are few, and their numbers are counted exactly
pub record SliceWithin (plan : PlanView) (set : ℕ) (slice : Slice) (start count : ℕ) : Type 0 where
  pub first : start ≡ start_of plan (set_at plan set) slice
  pub many : count ≡ ways_in plan (set_at plan set) slice
  pub within : start + count ≤ get_or plan.sizes set 0
  pub few : start + count ≤ 2 ^ 26

pub slice_within : (plan : PlanView) (set : ℕ) (slice : Slice) (start count : ℕ) → IsKept plan → set < length plan.sets → IsOwnSlice plan slice
    → has_part (set_at plan set) slice ≡ true → start ≡ saturated (start_of plan (set_at plan set) slice)
    → count ≡ saturated (ways (values_in plan slice) (set_at plan set))
    → SliceWithin plan set slice start count
slice_within plan set slice start count kept exists own part told_start told_count =
    let members = set_at plan set in
    let inside = within_count plan members slice own part in
    let most = count_within plan set kept exists in
    let first : start ≡ start_of plan members slice = omega (arith, inside, most, told_start) in
    let exact : count ≡ ways (values_in plan slice) members = omega (arith, inside, most, told_count) in
    record {
      first = first;
      many = exact ∙ sym (ap (λ b. if b then ways (values_in plan slice) members else 0) part);
      within = omega (arith, first, exact, inside, kept.counted set exists);
      few = omega (arith, first, exact, inside, most);
    }

-- a set has at most all its tuples in a slice
pub ways_within : (plan : PlanView) (set : ℕ) (slice : Slice) → IsKept plan → set < length plan.sets → IsOwnSlice plan slice
    → ways_in plan (set_at plan set) slice ≤ get_or plan.sizes set 0
ways_within plan set slice kept exists own =
    elim (cases_Bool (has_part (set_at plan set) slice)) [
      | inl part ↦
          let inside = within_count plan (set_at plan set) slice own part in
          let many = ap (λ b. if b then ways (values_in plan slice) (set_at plan set) else 0) part in
          omega (arith, inside, many, kept.counted set exists)
      | inr none ↦
          let many = ap (λ b. if b then ways (values_in plan slice) (set_at plan set) else 0) none in
          omega (arith, many)
    ]
