-- Which combinations of values explain the failing tests of a suite: the smallest tuples that a failing row
-- contains and no passing row does. (This project's rule.) A tuple is here the list of its pairs of a parameter
-- and a value, parameters rising.
use Rattle.std.specs.Prelude.{ℕ, ◌-◌, ◌*◌, Bool, ◌&&◌, not, List, [], ◌∷◌, map, filter, flat_map, length, count_by, zip, Option, ◌==◌}
use Rattle.std.specs.List.{list_all, list_any, range_with_len}
use Rattle.cov_model.specs.believed.Sound.{ModelView}
use Rattle.cov_model.specs.believed.Rows.{is_assigned, is_complete, value_in}
use Rattle.cov_model.specs.believed.Slices.{value_numbers}
use Rattle.cov_model.specs.believed.Valid.{param_numbers}
use Rattle.definitions.specs.believed.Demand.{choose}

-- the rows that count, which are the complete ones, whose tests passed, and those whose tests failed; beside each
-- row stands whether its test failed
abbrev pub passing_rows : List (List (Option ℕ)) → List Bool → List (List (Option ℕ))
passing_rows rows failed = map (λ row. row.0) (filter (λ row. is_complete row.0 && not row.1) (zip rows failed))

abbrev pub failing_rows : List (List (Option ℕ)) → List Bool → List (List (Option ℕ))
failing_rows rows failed = map (λ row. row.0) (filter (λ row. is_complete row.0 && row.1) (zip rows failed))

-- the rows that don't
abbrev pub incomplete_rows : List (List (Option ℕ)) → List (List (Option ℕ))
incomplete_rows rows = filter (λ row. not (is_complete row)) rows

-- a row gives a parameter this value
abbrev pub gives : List (Option ℕ) → ℕ × ℕ → Bool
gives row pair = is_assigned row pair.0 && (value_in row pair.0 == pair.1)

-- a row contains a tuple: it gives each of its parameters its value
abbrev pub has_tuple : List (ℕ × ℕ) → List (Option ℕ) → Bool
has_tuple tuple row = list_all (gives row) tuple

-- the sets of 1 to t parameters, t being the order: by their number, then in lexicographic order
abbrev pub suspect_sets : ModelView → List (List ℕ)
suspect_sets m = flat_map (λ k. choose k (param_numbers m)) (range_with_len 1 m.demand.order)

-- the tuples of a set, in lexicographic order of their values
abbrev pub tuples_on : ModelView → List ℕ → List (List (ℕ × ℕ))
tuples_on m [] = [] ∷ []
tuples_on m (p ∷ set) = flat_map (λ v. map (λ rest. (p, v) ∷ rest) (tuples_on m set)) (value_numbers m p)

-- the parts of a tuple that are neither empty nor all of it
abbrev pub proper_parts : List (ℕ × ℕ) → List (List (ℕ × ℕ))
proper_parts tuple = flat_map (λ k. choose k tuple) (range_with_len 1 (length tuple - 1))

-- a tuple is suspicious if a failing row contains it and no passing row does
abbrev pub is_suspicious : List (List (Option ℕ)) → List (List (Option ℕ)) → List (ℕ × ℕ) → Bool
is_suspicious passing failing tuple = list_any (has_tuple tuple) failing && not (list_any (has_tuple tuple) passing)

-- and smallest if besides no such part of it is
abbrev pub is_smallest : List (List (Option ℕ)) → List (List (Option ℕ)) → List (ℕ × ℕ) → Bool
is_smallest passing failing tuple =
    is_suspicious passing failing tuple && not (list_any (is_suspicious passing failing) (proper_parts tuple))

-- the smallest suspicious tuples of 1 to t parameters, each with the number of failing rows that contain it
abbrev pub suspect_tuples : ModelView → List (List (Option ℕ)) → List (List (Option ℕ)) → List (List (ℕ × ℕ) × ℕ)
suspect_tuples m passing failing =
    map (λ tuple. (tuple, count_by (has_tuple tuple) failing)) (filter (is_smallest passing failing) (flat_map (tuples_on m) (suspect_sets m)))

-- the candidates: each failing row, repeats too, with each set
abbrev pub candidate_count : ModelView → List (List (Option ℕ)) → ℕ
candidate_count m failing = length failing * length (suspect_sets m)

pub record Suspects : Type 0 where
  pub passing : ℕ
  pub failing : ℕ
  pub incomplete : ℕ
  pub found : List (List (ℕ × ℕ) × ℕ)

-- what is told of the rows of a suite, of each of which it is known whether its test failed
abbrev pub suspects : ModelView → List (List (Option ℕ)) → List Bool → Suspects
suspects m rows failed =
    let passing = passing_rows rows failed in
    let failing = failing_rows rows failed in
    record {
      passing = length passing;
      failing = length failing;
      incomplete = length (incomplete_rows rows);
      found = suspect_tuples m passing failing;
    }
