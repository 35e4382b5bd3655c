-- How many choices of demanded sets there are, counted before any is listed. (This project's rule.)
use Rattle.tuple_index.specs.believed.PlanFault.{saturated}
use Rattle.std.specs.Prelude.{◌≡◌, ◌≤◌, ◌==◌, slice_index_or, if◌then◌else◌, ℕ, zero, suc, ◌+◌, ◌*◌, ◌-◌, min, List, [], ◌∷◌, ◌++◌, map, length, sum_by, replicate}
use Rattle.cov_model.specs.declared.demand.Group.{Group}
use Rattle.cov_model.specs.believed.Sound.{ModelView}
use Rattle.definitions.specs.believed.Demand.{singles}

-- the sum of the products of any k of the counts
abbrev pub products : ℕ → List ℕ → ℕ
products zero counts = 1
products (suc k) [] = 0
products (suc k) (n ∷ counts) = n * products k counts + products (suc k) counts

-- how many ways there are to take as many members of a group as its order says
abbrev pub group_ways : Group → ℕ
group_ways group = products group.order (replicate (length group.members) 1)

-- the number of ways of each unit
abbrev pub unit_counts : ModelView → List ℕ
unit_counts m = map group_ways m.demand.subs ++ replicate (length (singles m)) 1

-- the number of choices
abbrev pub choice_count : ModelView → ℕ
choice_count m = products (min m.demand.order (length (unit_counts m))) (unit_counts m) + sum_by group_ways m.demand.relations

-- what the row of the next longer list has at a place: the sum of the products of any j counts, saturated
abbrev pub next_entry : ℕ → List ℕ → ℕ → ℕ
next_entry count row j = if j == 0 then 1 else saturated (saturated (count * slice_index_or row (j - 1) 0) + slice_index_or row j 0)

-- a row has the sums of the products of any 0 to k of the counts, saturated
pub record IsRow (k : ℕ) (counts row : List ℕ) : Type 0 where
  pub long : length row ≡ k + 1
  pub sums : (j : ℕ) → j ≤ k → slice_index_or row j 0 ≡ saturated (products j counts)
