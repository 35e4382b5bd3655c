-- How much of the demand the rows of a suite cover. (NIST IR 7878 for what is covered; the rest is this project's rule.)
use Rattle.std.specs.Prelude.{ℕ, ◌++◌, List, [], ◌∷◌, sum_by, Option, Some, None, nat_lt, if◌then◌else◌}
use Rattle.std.specs.List.{filter}
use Rattle.cov_model.specs.believed.Sound.{ModelView}
use Rattle.definitions.specs.believed.Demand.{demanded_sets}
use Rattle.definitions.specs.believed.Figures.{covered}

-- how many demanded tuples the tests among the rows cover
abbrev pub covered_of : ModelView → List (List (Option ℕ)) → ℕ
covered_of m rows = sum_by (covered m rows) (demanded_sets m)

-- a set with how many of its tuples are covered, and which of two has more: the earlier one where they have as many
abbrev pub SetCount : Type 0
SetCount = List ℕ × ℕ

abbrev pub more_covered : Option SetCount → SetCount → Option SetCount
more_covered None here = Some here
more_covered (Some before) here = if nat_lt before.1 here.1 then Some here else Some before

-- the set of which the most tuples are covered, the first of such; the best one so far comes first
abbrev pub largest_from : (List ℕ → ℕ) → Option SetCount → List (List ℕ) → Option SetCount
largest_from count best [] = best
largest_from count best (set ∷ sets) = largest_from count (more_covered best (set, count set)) sets

abbrev pub largest_of : ModelView → List (List (Option ℕ)) → Option SetCount
largest_of m rows = largest_from (covered m rows) None (demanded_sets m)

-- the numbers of tests after which it is told how many tuples are covered: round ones below all, and all
abbrev pub round_numbers : List ℕ
round_numbers =
    1 ∷ 2 ∷ 5 ∷ 10 ∷ 20 ∷ 50 ∷ 100 ∷ 200 ∷ 500 ∷ 1000 ∷ 2000 ∷ 5000 ∷ 10000 ∷ 20000 ∷ 50000 ∷ 100000 ∷ 200000 ∷ 500000 ∷ 1000000 ∷ []

abbrev pub round_counts : ℕ → List ℕ
round_counts count = filter (λ n. nat_lt n count) round_numbers ++ count ∷ []
