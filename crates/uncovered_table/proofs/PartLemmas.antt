-- A slice of a model, by the model's plan.
use Rattle.std.proofs.Common.{◌≡◌, ℕ, ◌<◌, ◌≤◌, true, List, [], All, Option, length, get_or, ◌∙◌, sym, subst, ap, arith, inl, inr}
use Rattle.std.specs.Prelude.{IfSome, if◌then◌else◌}
use Rattle.std.proofs.lemmas.List.FromFn.{length-map-range_with_len, length-range_with_len}
use Rattle.std.proofs.lemmas.List.Sums.{count_by-le-length, length-filter}
use Rattle.std.proofs.lemmas.Bool.{cases_Bool}
use Rattle.cov_model.specs.declared.slice.Slice.{Slice}
use Rattle.cov_model.specs.believed.Sound.{IsSound, ModelView, param_at}
use Rattle.cov_model.specs.believed.Slices.{positive_values, value_numbers}
use Rattle.definitions.specs.believed.Demand.{demanded_sets}
use Rattle.definitions.specs.SliceRows.{IsSliceOf}
use Rattle.tuple_index.specs.Kept.{IsKept}
use Rattle.tuple_index.specs.Plan.{PlanView, plan_of}
use Rattle.tuple_index.specs.Places.{has_part, start_of, values_in, ways, ways_in}
use Rattle.uncovered_table.specs.Bits.{tuple_count}
use Rattle.uncovered_table.specs.Digits.{is_own, own_values}
use Rattle.uncovered_table.specs.Kept.{last_column}
use Rattle.uncovered_table.specs.Lasts.{lowest}
use Rattle.uncovered_table.specs.Places.{set_at, slice_start}
use Rattle.uncovered_table.proofs.ChoiceLemmas.{own_passing}
use Rattle.uncovered_table.proofs.ScoreLemmas.{values_few}
use Rattle.uncovered_table.proofs.LastLemmas.{last_is}
use Rattle.uncovered_table.proofs.PlaceLemmas.{set_rises}
use Rattle.uncovered_table.proofs.SliceLemmas.{length-tuples_in, start_is}

-- a plan has the values of each parameter
pub plan_long : (m : ModelView) (plan : PlanView) → plan ≡ plan_of m → length plan.positives ≡ length m.params
plan_long m plan planned = ap (λ p. length p.positives) planned ∙ length-map-range_with_len (positive_values m) 0 (length m.params)

pub all_planned : (m : ModelView) (plan : PlanView) (members : List ℕ) → plan ≡ plan_of m → All (λ p. p < length m.params) members
    → All (λ p. p < length plan.positives) members
all_planned m plan members planned exist = subst (λ n. All (λ p. p < n) members) (sym (plan_long m plan planned)) exist

pub one_planned : (m : ModelView) (plan : PlanView) (last : Option ℕ) → plan ≡ plan_of m → IfSome last (λ p. p < length plan.positives)
    → IfSome last (λ p. p < length m.params)
one_planned m plan last planned own = subst (λ n. IfSome last (λ p. p < n)) (plan_long m plan planned) own

-- the ranks of a set in the slice
pub record RanksKnown (m : ModelView) (slice : Slice) (set first count : ℕ) : Type 0 where
  pub many : count ≡ tuple_count m slice set
  pub start : 0 < count → first ≡ slice_start m (set_at m set) slice

pub ranks_known : (m : ModelView) (slice : Slice) (plan : PlanView) (set first many : ℕ) → plan ≡ plan_of m → IsKept plan → IsSliceOf m slice
    → set < length (demanded_sets m)
    → many ≡ ways_in plan (get_or plan.sets set []) slice
    → (has_part (get_or plan.sets set []) slice ≡ true → first ≡ start_of plan (get_or plan.sets set []) slice)
    → RanksKnown m slice set first many
ranks_known m slice plan set first many planned kept own exists counted starts =
    let members = set_at m set in
    let rises = set_rises m set (subst IsKept planned kept) exists in
    let number : many ≡ ways_in (plan_of m) members slice = subst (λ p. many ≡ ways_in p (get_or p.sets set []) slice) planned counted in
    let begin : has_part members slice ≡ true → first ≡ start_of (plan_of m) members slice =
    subst (λ p. has_part (get_or p.sets set []) slice ≡ true → first ≡ start_of p (get_or p.sets set []) slice) planned starts in
    record {
      many = number ∙ sym (length-tuples_in m members slice rises);
      start = λ some. elim (cases_Bool (has_part members slice)) [
        | inl part ↦ begin part ∙ sym (start_is m members slice rises own part)
        | inr none ↦ let empty = ap (λ b. if b then ways (values_in (plan_of m) slice) members else 0) none in absurd (omega (arith, some, number, empty))
      ];
    }

-- the last member of a set
pub last_known : (m : ModelView) (slice : Slice) (plan : PlanView) (set : ℕ) (members : List ℕ) (last : Option ℕ) → plan ≡ plan_of m → IsKept plan
    → IsSliceOf m slice
    → set < length (demanded_sets m) → members ≡ set_at m set → last ≡ lowest (λ r. length (values_in plan slice r)) members
    → last ≡ last_column m slice (set_at m set)
last_known m slice plan set members last planned kept own exists same made =
    made ∙ ap (lowest (λ r. length (values_in plan slice r))) same ∙ ap (λ p. lowest (λ r. length (values_in p slice r)) (set_at m set)) planned
    ∙ sym (last_is m slice (set_at m set) own (set_rises m set (subst IsKept planned kept) exists))

-- a parameter has few values in the slice
pub own_few : (m : ModelView) (slice : Slice) (p : ℕ) → IsSound m → IsSliceOf m slice → p < length m.params → length (own_values m slice p) ≤ 4095
own_few m slice p sound own within =
    let numbers = value_numbers m p in
    let most = values_few m p sound within in
    let all : length numbers ≡ length (param_at m.params p).values = length-range_with_len 0 (length (param_at m.params p).values) in
    omega (
      arith,
      ap length (own_passing m slice p own within),
      length-filter (is_own m slice p) numbers,
      count_by-le-length (is_own m slice p) numbers,
      all,
      most,
    )
