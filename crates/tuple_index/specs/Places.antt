-- The demanded tuples of a set as values of its members, and where each stands. (This project's rule on
-- the order of tuples; places are numbers in mixed radix.)
use Rattle.std.specs.Prelude.{◌≡◌, ℕ, Bool, true, ◌&&◌, nat_le, nat_lt, ◌+◌, ◌*◌, ◌<◌, ◌≤◌, List, [], ◌∷◌, ◌++◌, map, length, sum_by, ◌==◌, slice_index_or, if◌then◌else◌}
use Rattle.std.specs.List.{flat_map}
use Rattle.cov_model.specs.declared.slice.Slice.{Slice}
use Rattle.cov_model.specs.declared.slice.Slice.TheVariants.{Positive, Negative}
use Rattle.definitions.specs.believed.Demand.{is_among}
use Rattle.tuple_index.specs.Plan.{PlanView, is_negative}

-- the numbers rise, and are from p on and below e
abbrev pub RisesFrom : ℕ → ℕ → List ℕ → Type 0
RisesFrom p e [] = Unit {0}
RisesFrom p e (q ∷ set) = (p ≤ q) × (q < e) × RisesFrom (q + 1) e set

-- whether they do
abbrev pub rises_from : ℕ → ℕ → List ℕ → Bool
rises_from p e [] = true
rises_from p e (q ∷ set) = nat_le p q && (nat_lt q e && rises_from (q + 1) e set)

-- the values of a parameter in a slice
abbrev pub values_in : PlanView → Slice → ℕ → List ℕ
values_in plan Positive p = slice_index_or plan.positives p []
values_in plan (Negative q v) p = if p == q then v ∷ [] else slice_index_or plan.positives p []

-- the negative values of a parameter
abbrev pub negatives_of : PlanView → ℕ → List ℕ
negatives_of plan p = slice_index_or plan.negatives p []

-- the choices of a value for each member of a set, in lexicographic order
abbrev pub value_lists : (ℕ → List ℕ) → List ℕ → List (List ℕ)
value_lists values [] = [] ∷ []
value_lists values (p ∷ set) = flat_map (λ v. map (λ rest. v ∷ rest) (value_lists values set)) (values p)

-- their number
abbrev pub ways : (ℕ → List ℕ) → List ℕ → ℕ
ways values [] = 1
ways values (p ∷ set) = length (values p) * ways values set

-- the place of a number in a list, or the list's length
abbrev pub place_of : List ℕ → ℕ → ℕ
place_of [] v = 0
place_of (w ∷ values) v = if w == v then 0 else place_of values v + 1

-- the place of a choice of values
abbrev pub place : (ℕ → List ℕ) → List ℕ → List ℕ → ℕ
place values [] chosen = 0
place values (p ∷ set) [] = 0
place values (p ∷ set) (v ∷ chosen) = place_of (values p) v * ways values set + place values set chosen

-- how many tuples of a set have a negative value of this member
abbrev pub negative_ways : PlanView → List ℕ → ℕ → ℕ
negative_ways plan set p = length (negatives_of plan p) * ways (values_in plan (Negative p 0)) set

-- how many demanded tuples a set has
abbrev pub tuple_count : PlanView → List ℕ → ℕ
tuple_count plan set = ways (values_in plan Positive) set + sum_by (negative_ways plan set) set

-- the tuples with a negative value of this member, and all tuples of a set
abbrev pub negative_lists : PlanView → List ℕ → ℕ → List (List ℕ)
negative_lists plan set p = flat_map (λ v. value_lists (values_in plan (Negative p v)) set) (negatives_of plan p)

abbrev pub tuple_lists : PlanView → List ℕ → List (List ℕ)
tuple_lists plan set = value_lists (values_in plan Positive) set ++ flat_map (negative_lists plan set) set

-- how many tuples have a negative value of one of these members before q
abbrev pub ways_before : PlanView → List ℕ → ℕ → List ℕ → ℕ
ways_before plan set q [] = 0
ways_before plan set q (p ∷ members) = if p == q then 0 else negative_ways plan set p + ways_before plan set q members

-- how many tuples of the set stand in the slices before
abbrev pub start_of : PlanView → List ℕ → Slice → ℕ
start_of plan set Positive = 0
start_of plan set (Negative q v) =
    ways (values_in plan Positive) set + (ways_before plan set q set + place_of (negatives_of plan q) v * ways (values_in plan (Negative q 0)) set)

-- the slice of values: that of the first negative one
abbrev pub slice_given : PlanView → List ℕ → List ℕ → Slice
slice_given plan [] chosen = Positive
slice_given plan (p ∷ set) [] = Positive
slice_given plan (p ∷ set) (v ∷ chosen) = if is_negative plan p v then Negative p v else slice_given plan set chosen

-- the parameter of a negative slice exists
abbrev pub IsSliceOfPlan : PlanView → Slice → Type 0
IsSliceOfPlan plan Positive = Unit {0}
IsSliceOfPlan plan (Negative q v) = q < length plan.positives

-- so does its value, which is a negative one
abbrev pub IsOwnSlice : PlanView → Slice → Type 0
IsOwnSlice plan Positive = Unit {0}
IsOwnSlice plan (Negative q v) = (q < length plan.positives) × (is_negative plan q v ≡ true)

-- a set has tuples in a negative slice only if the slice's parameter is a member
abbrev pub has_part : List ℕ → Slice → Bool
has_part set Positive = true
has_part set (Negative q v) = is_among set q

-- how many tuples a set has in a slice
abbrev pub ways_in : PlanView → List ℕ → Slice → ℕ
ways_in plan set slice = if has_part set slice then ways (values_in plan slice) set else 0

-- the rank of values
abbrev pub rank_of : PlanView → List ℕ → List ℕ → ℕ
rank_of plan set chosen =
    start_of plan set (slice_given plan set chosen) + place (values_in plan (slice_given plan set chosen)) set chosen
