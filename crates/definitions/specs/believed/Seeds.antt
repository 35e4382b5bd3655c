-- Which rows of a seed file are kept. (PICT's guide for seeds; which are kept is this project's rule.)
-- A seed row is the number of its line and the partial row that the line gives.
use Rattle.std.specs.Prelude.{ℕ, Bool, ◌&&◌, not, List, [], ◌∷◌, map, Option, is_some}
use Rattle.std.specs.List.{filter, list_any}
use Rattle.cov_model.specs.believed.Sound.{ModelView}
use Rattle.cov_model.specs.believed.Rows.{contains}
use Rattle.definitions.specs.believed.Completion.{has_slice, can_be_served}

-- two partial rows of one model are the same if each contains the other
abbrev pub is_same_row : List (Option ℕ) → List (Option ℕ) → Bool
is_same_row a b = contains a b && contains b a

-- the items without those of which an earlier one has the same row
abbrev pub distinct_by : {X : Type 0} → (X → List (Option ℕ)) → List X → List X
distinct_by row [] = []
distinct_by row (x ∷ items) = x ∷ filter (λ y. not (is_same_row (row x) (row y))) (distinct_by row items)

-- the distinct rows, in order of first occurrence
abbrev pub distinct : List (List (Option ℕ)) → List (List (Option ℕ))
distinct rows = distinct_by (λ row. row) rows

-- the distinct seed rows that give some parameter a value, each by its first occurrence
abbrev pub seed_rows : List (ℕ × List (Option ℕ)) → List (ℕ × List (Option ℕ))
seed_rows seeds = filter (λ seed. list_any is_some seed.1) (distinct_by (λ seed. seed.1) seeds)

-- the seeds whose extendability is asked: those with at most one negative value
abbrev pub asked_seeds : ModelView → List (ℕ × List (Option ℕ)) → List (List (Option ℕ))
asked_seeds m seeds = filter (has_slice m) (map (λ seed. seed.1) (seed_rows seeds))

-- the kept seeds: those that are extendable besides
abbrev pub kept_seeds : ModelView → List (ℕ × List (Option ℕ)) → List (List (Option ℕ))
kept_seeds m seeds = filter (can_be_served m) (map (λ seed. seed.1) (seed_rows seeds))

-- the lines of the seed rows that aren't kept
abbrev pub dropped_lines : ModelView → List (ℕ × List (Option ℕ)) → List ℕ
dropped_lines m seeds = map (λ seed. seed.0) (filter (λ seed. not (can_be_served m seed.1)) (seed_rows seeds))
