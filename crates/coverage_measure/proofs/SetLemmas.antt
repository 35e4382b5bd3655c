-- One more demanded set, added to the figures.
use Rattle.std.proofs.Common.{◌≡◌, ℕ, ◌+◌, ◌*◌, ◌^◌, ◌<◌, ◌≤◌, Bool, true, false, cond, List, [], length, get_or, take, Option, refl, arith}
use Rattle.std.specs.Prelude.{nat_le}
use Rattle.std.proofs.lemmas.List.Filters.{length-filter_more}
use Rattle.std.proofs.lemmas.List.Sums.{sum_by_more}
use Rattle.cov_model.specs.believed.Sound.{ModelView}
use Rattle.definitions.specs.believed.Figures.{covered, is_at, servable}
use Rattle.coverage_measure.specs.declared.set_figures.SetFigures.{SetFigures}
use Rattle.coverage_measure.specs.SetFigures.{IsWithin, one_at, set_figures, with_set}

pub figures_more : (m : ModelView) (rows : List (List (Option ℕ))) (sets : List (List ℕ)) (i : ℕ) → i < length sets
    → set_figures m rows (take (i + 1) sets) ≡ with_set (set_figures m rows (take i sets)) (servable m (get_or sets i [])) (covered m rows (get_or sets i []))
figures_more m rows sets i within =
    rw (
      sum_by_more (servable m) sets i [] within,
      sum_by_more (covered m rows) sets i [] within,
      length-filter_more (is_at m rows 100) sets i [] within,
      length-filter_more (is_at m rows 75) sets i [] within,
      length-filter_more (is_at m rows 50) sets i [] within,
      length-filter_more (is_at m rows 25) sets i [] within,
    ) refl

at_most_one : (percent servable covered : ℕ) → one_at percent servable covered ≤ 1
at_most_one percent servable covered = by_test (nat_le (percent * servable) (100 * covered))
  where
    by_test : (b : Bool) → cond b 1 0 ≤ 1
    by_test true = omega arith
    by_test false = omega arith

-- the figures stay within the number of sets
pub within_more : (n servable covered : ℕ) (figures : SetFigures) → servable < 2 ^ 32 → covered < 2 ^ 32 → IsWithin n figures
    → IsWithin (n + 1) (with_set figures servable covered)
within_more n servable covered figures few few_covered within = record {
  servable = omega (arith, few, within.servable);
  covered = omega (arith, few_covered, within.covered);
  complete = omega (arith, within.complete, at_most_one 100 servable covered);
  at75 = omega (arith, within.at75, at_most_one 75 servable covered);
  at50 = omega (arith, within.at50, at_most_one 50 servable covered);
  at25 = omega (arith, within.at25, at_most_one 25 servable covered);
}

pub within_wider : (n k : ℕ) (figures : SetFigures) → n ≤ k → IsWithin n figures → IsWithin k figures
within_wider n k figures less within = record {
  servable = omega (arith, less, within.servable);
  covered = omega (arith, less, within.covered);
  complete = omega (arith, less, within.complete);
  at75 = omega (arith, less, within.at75);
  at50 = omega (arith, less, within.at50);
  at25 = omega (arith, less, within.at25);
}
