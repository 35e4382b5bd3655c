-- How well demanded sets are covered. (NIST IR 7878.)
use Rattle.std.specs.Prelude.{ℕ, ◌+◌, ◌*◌, ◌^◌, ◌≤◌, List, length, sum_by, Option, nat_le, if◌then◌else◌}
use Rattle.std.specs.List.{filter}
use Rattle.cov_model.specs.believed.Sound.{ModelView}
use Rattle.definitions.specs.believed.Figures.{covered, is_at, servable}
use Rattle.coverage_measure.specs.declared.set_figures.SetFigures.{SetFigures}

-- the figures of some sets of a model, covered by the rows of a suite
abbrev pub set_figures : ModelView → List (List (Option ℕ)) → List (List ℕ) → SetFigures
set_figures m rows sets = record {
  servable = sum_by (servable m) sets;
  covered = sum_by (covered m rows) sets;
  complete = length (filter (is_at m rows 100) sets);
  at75 = length (filter (is_at m rows 75) sets);
  at50 = length (filter (is_at m rows 50) sets);
  at25 = length (filter (is_at m rows 25) sets);
}

-- one for a set of whose servable tuples at least this percentage is covered
abbrev pub one_at : ℕ → ℕ → ℕ → ℕ
one_at percent servable covered = if nat_le (percent * servable) (100 * covered) then 1 else 0

-- with one more set
abbrev pub with_set : SetFigures → ℕ → ℕ → SetFigures
with_set figures servable covered = record {
  servable = figures.servable + servable;
  covered = figures.covered + covered;
  complete = figures.complete + one_at 100 servable covered;
  at75 = figures.at75 + one_at 75 servable covered;
  at50 = figures.at50 + one_at 50 servable covered;
  at25 = figures.at25 + one_at 25 servable covered;
}

-- figures of a number of sets, each with fewer than 2^32 tuples
pub record IsWithin (sets : ℕ) (figures : SetFigures) : Type 0 where
  pub servable : figures.servable ≤ sets * 2 ^ 32
  pub covered : figures.covered ≤ sets * 2 ^ 32
  pub complete : figures.complete ≤ sets * 2 ^ 32
  pub at75 : figures.at75 ≤ sets * 2 ^ 32
  pub at50 : figures.at50 ≤ sets * 2 ^ 32
  pub at25 : figures.at25 ≤ sets * 2 ^ 32
