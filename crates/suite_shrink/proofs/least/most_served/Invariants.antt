use Rattle.std.proofs.Common.{◌≡◌, ◌≤◌, ◌^◌, List, ℕ, Option, map, take}
use Rattle.definitions.specs.believed.Demand.{demanded_sets}
use Rattle.shorter_suites.specs.believed.Bounds.{greatest, served_in}
use Rattle.suite_shrink.specs.Coverage.{AreMarksOf}
use Rattle.suite_shrink.proofs.least.most_served.Given as goal

-- the sets before this one
abbrev pub invariant-loop-set : goal.invariant-loop-set
invariant-loop-set l = record {
  few : l.most ≤ 2 ^ 26;
  count : (rows : List (List (Option ℕ))) → AreMarksOf l.model rows l.marks
      → l.most ≡ greatest (map (served_in l.model rows l.slice) (take l.set (demanded_sets l.model)));
}
