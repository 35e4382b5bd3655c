-- The curve of a page: how many combinations the first tests cover, from none of the tests to all of them, in at most 199
-- steps that are as long as each other, up to rounding. (This project's rule.)
use Rattle.std.specs.Prelude.{ℕ, ◌+◌, ◌*◌, ◌/◌, Bool, List, ◌∷◌, length, map, min, take, Option, if◌then◌else◌}
use Rattle.std.specs.List.{range_with_len}
use Rattle.cov_model.specs.believed.Sound.{ModelView}
use Rattle.suite_facts.specs.believed.Coverages.{numbers_of}
use Rattle.suite_facts.specs.believed.Facts.{covered_of}
use Rattle.suite_page.specs.believed.Pictures.{Picture}
use Rattle.suite_page.specs.declared.picture.Point.{Point}

-- the numbers of tests at which the curve has a point
abbrev pub curve_counts : ℕ → List ℕ
curve_counts count = let steps = min count 199 in 0 ∷ map (λ i. (i + 1) * count / steps) (range_with_len 0 steps)

abbrev pub point_at : ModelView → List (List (Option ℕ)) → ℕ → Point
point_at m rows n = record { tests = n; covered = covered_of m (take n rows) }

-- all that can be covered is covered where the suite is accepted
abbrev pub picture_of : ModelView → List (List (Option ℕ)) → Bool → Picture
picture_of m rows accepted =
    let numbers = numbers_of m rows in
    record {
      points = map (point_at m rows) (curve_counts (length rows));
      tests = numbers.tests;
      covered = numbers.covered;
      total = if accepted then numbers.covered else numbers.demanded;
      is_known = accepted;
    }
