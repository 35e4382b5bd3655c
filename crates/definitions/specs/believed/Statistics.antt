-- What is told of a generated suite in numbers, and the texts of statistics and figures.
-- (PICT's guide for the statistics, NIST IR 7878 for the figures; the texts are this project's rules.)
use Rattle.std.specs.Prelude.{ℕ, List, [], ◌∷◌, ◌++◌, length, Option, codes, decimal}
use Rattle.cov_model.specs.believed.Sound.{ModelView}
use Rattle.definitions.specs.believed.Demand.{demanded_sets, demanded_tuples}
use Rattle.definitions.specs.believed.Seeds.{kept_seeds}
use Rattle.definitions.specs.believed.Growth.{growth}
use Rattle.definitions.specs.believed.Figures.{Figures}

pub record Statistics : Type 0 where
  pub sets : ℕ
  pub tuples : ℕ
  pub omitted : ℕ
  pub kept : ℕ
  pub tests : ℕ

-- the statistics of the growth from these preference orders and seed rows
abbrev pub statistics : ModelView → List (List ℕ) → List (ℕ × List (Option ℕ)) → Statistics
statistics m pref seeds = record {
  sets = length (demanded_sets m);
  tuples = length (demanded_tuples m);
  omitted = length (growth m pref seeds).omitted;
  kept = length (kept_seeds m seeds);
  tests = length (growth m pref seeds).rows;
}

-- a line with a label and a number, and one with two numbers
abbrev pub number_line : List ℕ → ℕ → List ℕ
number_line label n = label ++ decimal n ++ 10 ∷ []

abbrev pub numbers_line : List ℕ → ℕ → ℕ → List ℕ
numbers_line label n total = label ++ decimal n ++ codes " of " ++ decimal total ++ 10 ∷ []

-- the text of statistics
abbrev pub statistics_text : Statistics → List ℕ
statistics_text s =
    number_line (codes "Demanded sets: ") s.sets ++ number_line (codes "Demanded tuples: ") s.tuples ++ number_line (codes "Omitted tuples: ") s.omitted
    ++ number_line (codes "Kept seeds: ") s.kept ++ number_line (codes "Generated tests: ") s.tests

-- the text of figures
abbrev pub figures_text : Figures → List ℕ
figures_text f =
    number_line (codes "Tests: ") f.tests ++ number_line (codes "Incomplete tests: ") f.incomplete ++ number_line (codes "Invalid tests: ") f.invalid
    ++ number_line (codes "Demanded sets: ") f.sets ++ number_line (codes "Demanded tuples: ") f.tuples
    ++ numbers_line (codes "Covered tuples: ") f.covered f.servable ++ numbers_line (codes "Complete sets: ") f.complete f.sets
    ++ numbers_line (codes "Sets at 75 percent: ") f.at75 f.sets ++ numbers_line (codes "Sets at 50 percent: ") f.at50 f.sets
    ++ numbers_line (codes "Sets at 25 percent: ") f.at25 f.sets
