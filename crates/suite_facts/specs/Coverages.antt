-- The coverage of rows as the program has it.
use Rattle.std.specs.Prelude.{◌≡◌, ℕ, ◌+◌, ◌<◌, List, length, Option, Some, None, nat_lt, option_map, IfSome, if◌then◌else◌}
use Rattle.cov_model.specs.believed.Sound.{ModelView}
use Rattle.definitions.specs.believed.Demand.{demanded_sets}
use Rattle.tuple_index.specs.Plan.{plan_of, set_at}
use Rattle.suite_facts.specs.declared.coverage.Coverage.{Coverage}
use Rattle.suite_facts.specs.declared.coverage.LargestSet.{LargestSet}
use Rattle.suite_facts.specs.believed.Facts.{SetCount, covered_of, largest_of}

-- the set that it names
abbrev pub set_seen : ModelView → LargestSet → SetCount
set_seen m found = (set_at (plan_of m) found.set, found.covered)

pub record IsCoverageOf (m : ModelView) (rows : List (List (Option ℕ))) (coverage : Coverage) : Type 0 where
  pub covered : coverage.covered ≡ covered_of m rows
  pub largest : option_map (set_seen m) coverage.largest ≡ largest_of m rows
  pub exists : IfSome coverage.largest (λ found. found.set < length (demanded_sets m))

-- which of two sets has more covered tuples
abbrev pub larger : Option LargestSet → LargestSet → Option LargestSet
larger None here = Some here
larger (Some before) here = if nat_lt before.covered here.covered then Some here else Some before

-- with one more set
abbrev pub with_set : Coverage → ℕ → ℕ → Coverage
with_set coverage set covered = record {
  covered = coverage.covered + covered;
  largest = larger coverage.largest (record { set = set; covered = covered });
}
