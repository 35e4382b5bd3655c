-- The coverage of rows as the program has it.
use Rattle.std.specs.Prelude.{ℕ, List, length, take, Option}
use Rattle.cov_model.specs.believed.Sound.{ModelView}
use Rattle.definitions.specs.believed.Demand.{demanded_sets, demanded_tuples}
use Rattle.suite_facts.specs.declared.coverage.SuiteNumbers.{SuiteNumbers}
use Rattle.suite_facts.specs.declared.curve.CurvePoint.{CurvePoint}
use Rattle.suite_facts.specs.believed.Facts.{covered_of}

-- how large a suite is, and how much of the demand it covers
abbrev pub numbers_of : ModelView → List (List (Option ℕ)) → SuiteNumbers
numbers_of m rows = record {
  tests = length rows;
  params = length m.params;
  sets = length (demanded_sets m);
  demanded = length (demanded_tuples m);
  covered = covered_of m rows;
}

-- how much so many of the first rows cover
abbrev pub point_of : ModelView → List (List (Option ℕ)) → ℕ → CurvePoint
point_of m rows n = record { tests = n; covered = covered_of m (take n rows) }
