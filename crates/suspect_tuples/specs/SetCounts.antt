-- How many sets of 1 to k items there are, counted before any is listed. (How this program counts candidates; no
-- public clause speaks of it.)
use Rattle.std.specs.Prelude.{◌≡◌, ◌≤◌, ◌==◌, ℕ, ◌+◌, ◌-◌, List, length, slice_index_or, if◌then◌else◌}
use Rattle.std.specs.List.{flat_map, range_with_len}
use Rattle.definitions.specs.believed.Demand.{choose}
use Rattle.tuple_index.specs.believed.PlanFault.{saturated}

-- the number of ways to take 1 to k of the items
abbrev pub ways_up_to : ℕ → List ℕ → ℕ
ways_up_to k items = length (flat_map (λ j. choose j items) (range_with_len 1 k))

-- what the row of one item more has at a place
abbrev pub next_count : List ℕ → ℕ → ℕ
next_count row k = if k == 0 then 0 else saturated (saturated (slice_index_or row (k - 1) 0 + slice_index_or row k 0) + 1)

-- a row has the numbers of ways to take 1 to k of so many items, for each k up to this one, saturated
pub record AreCounts (most items : ℕ) (row : List ℕ) : Type 0 where
  pub long : length row ≡ most + 1
  pub counts : (list : List ℕ) (k : ℕ) → length list ≡ items → k ≤ most → slice_index_or row k 0 ≡ saturated (ways_up_to k list)
