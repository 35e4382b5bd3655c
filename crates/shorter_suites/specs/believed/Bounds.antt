-- How many rows any suite needs that serves what given rows serve: within a set and a slice a row serves one
-- tuple. (This project's rule.)
use Rattle.std.specs.Prelude.{◌≡◌, ℕ, ◌≤◌, true, List, [], ◌∷◌, map, length, max, sum_by, filter, Option, All}
use Rattle.cov_model.specs.declared.slice.Slice.{Slice}
use Rattle.cov_model.specs.believed.Sound.{ModelView}
use Rattle.cov_model.specs.believed.Slices.{slices}
use Rattle.cov_model.specs.believed.Valid.{is_valid}
use Rattle.definitions.specs.believed.Demand.{demanded_sets, tuples_in}
use Rattle.definitions.specs.believed.Figures.{is_served}
use Rattle.shorter_suites.specs.believed.Shrinking.{ServesToo}

-- how many of the demanded tuples of a set in a slice one of the rows serves
abbrev pub served_in : ModelView → List (List (Option ℕ)) → Slice → List ℕ → ℕ
served_in m rows slice set = length (filter (is_served m rows) (tuples_in m set slice))

-- the greatest of the numbers, or 0
abbrev pub greatest : List ℕ → ℕ
greatest [] = 0
greatest (n ∷ numbers) = max n (greatest numbers)

-- the greatest number of tuples of one demanded set that the rows serve in a slice
abbrev pub most_served : ModelView → List (List (Option ℕ)) → Slice → ℕ
most_served m rows slice = greatest (map (served_in m rows slice) (demanded_sets m))

-- its sum over the slices
abbrev pub least_needed : ModelView → List (List (Option ℕ)) → ℕ
least_needed m rows = sum_by (most_served m rows) (slices m)

-- no valid rows that serve what given rows serve are fewer than so many
abbrev pub NeedsAtLeast : ModelView → List (List (Option ℕ)) → ℕ → Type 0
NeedsAtLeast m given least = (rows : List (List (Option ℕ))) → All (λ row. is_valid m row ≡ true) rows → ServesToo m given rows → least ≤ length rows
