-- How well a given suite covers the demand. (NIST IR 7878 for the figures; that tuples which no row
-- serves don't count is this project's rule.)
use Rattle.std.specs.Prelude.{ℕ, ◌*◌, Bool, ◌&&◌, not, List, [], length, map, sum_by, filter, Option, nat_le}
use Rattle.std.specs.List.{list_any}
use Rattle.cov_model.specs.believed.Sound.{ModelView}
use Rattle.cov_model.specs.believed.Rows.{is_complete}
use Rattle.cov_model.specs.believed.Valid.{is_valid, serves, param_numbers}
use Rattle.cov_model.specs.believed.Slices.{value_numbers}
use Rattle.definitions.specs.believed.Demand.{demanded_sets, demanded_tuples, tuples_of}
use Rattle.definitions.specs.believed.Completion.{completions}

-- the tests of a suite: its rows that are complete and valid, repeats too
abbrev pub tests_of : ModelView → List (List (Option ℕ)) → List (List (Option ℕ))
tests_of m rows = filter (λ row. is_complete row && is_valid m row) rows

-- every row of the model, valid or not
abbrev pub all_rows : ModelView → List (List (Option ℕ))
all_rows m = completions (map (value_numbers m) (param_numbers m)) []

-- one of the rows serves the tuple
abbrev pub is_served : ModelView → List (List (Option ℕ)) → List (Option ℕ) → Bool
is_served m rows tuple = list_any (λ row. serves m row tuple) rows

-- how many of the demanded tuples of a set one of the rows serves
abbrev pub served_count : ModelView → List (List (Option ℕ)) → List ℕ → ℕ
served_count m rows set = length (filter (is_served m rows) (tuples_of m set))

-- how many of them some row of the model serves, and how many a test of the suite does
abbrev pub servable : ModelView → List ℕ → ℕ
servable m set = served_count m (all_rows m) set

abbrev pub covered : ModelView → List (List (Option ℕ)) → List ℕ → ℕ
covered m rows set = served_count m (tests_of m rows) set

-- at least this percentage of the servable tuples of the set is covered
abbrev pub is_at : ModelView → List (List (Option ℕ)) → ℕ → List ℕ → Bool
is_at m rows percent set = nat_le (percent * servable m set) (100 * covered m rows set)

-- how many of the demanded sets are at this percentage
abbrev pub sets_at : ModelView → List (List (Option ℕ)) → ℕ → ℕ
sets_at m rows percent = length (filter (is_at m rows percent) (demanded_sets m))

pub record Figures : Type 0 where
  pub tests : ℕ
  pub incomplete : ℕ
  pub invalid : ℕ
  pub sets : ℕ
  pub tuples : ℕ
  pub servable : ℕ
  pub covered : ℕ
  pub complete : ℕ
  pub at75 : ℕ
  pub at50 : ℕ
  pub at25 : ℕ

-- the figures of a suite's rows; servable and covered are sums over the demanded sets
abbrev pub figures : ModelView → List (List (Option ℕ)) → Figures
figures m rows = record {
  tests = length (tests_of m rows);
  incomplete = length (filter (λ row. not (is_complete row)) rows);
  invalid = length (filter (λ row. is_complete row && not (is_valid m row)) rows);
  sets = length (demanded_sets m);
  tuples = length (demanded_tuples m);
  servable = sum_by (servable m) (demanded_sets m);
  covered = sum_by (covered m rows) (demanded_sets m);
  complete = sets_at m rows 100;
  at75 = sets_at m rows 75;
  at50 = sets_at m rows 50;
  at25 = sets_at m rows 25;
}
