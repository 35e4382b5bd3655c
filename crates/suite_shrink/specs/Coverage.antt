-- What given rows serve and contain, beside other rows. (This project's rule.)
use Rattle.std.specs.Prelude.{◌≡◌, ℕ, Bool, true, List, map, Option}
use Rattle.cov_model.specs.believed.Sound.{ModelView}
use Rattle.definitions.specs.believed.Demand.{demanded_tuples}
use Rattle.definitions.specs.believed.Figures.{is_served}
use Rattle.shorter_suites.specs.believed.Shrinking.{is_contained}

-- the marks are those of the demanded tuples that the rows serve
abbrev pub AreMarksOf : ModelView → List (List (Option ℕ)) → List Bool → Type 0
AreMarksOf m rows marks = marks ≡ map (is_served m rows) (demanded_tuples m)

-- a seed row that a given row contains is contained in one of the rows
abbrev pub Stays : List (List (Option ℕ)) → List (List (Option ℕ)) → List (Option ℕ) → Type 0
Stays given rows seed = is_contained given seed ≡ true → is_contained rows seed ≡ true
