-- How much of the demand the rows of a suite cover. (NIST IR 7878 for what is covered; the rest is this project's rule.)
use Rattle.std.specs.Prelude.{◌≡◌, ℕ, Bool, List, map, Option}
use Rattle.cov_model.specs.believed.Sound.{ModelView}
use Rattle.definitions.specs.believed.Demand.{demanded_tuples}
use Rattle.definitions.specs.believed.Figures.{is_served, tests_of}

-- the marks are those of the demanded tuples that they cover
abbrev pub AreMarksOf : ModelView → List (List (Option ℕ)) → List Bool → Type 0
AreMarksOf m rows marks = marks ≡ map (is_served m (tests_of m rows)) (demanded_tuples m)
