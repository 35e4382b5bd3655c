use Rattle.std.proofs.Common.{◌≡◌, ◌≤◌, ◌*◌, ◌^◌, ℕ, List, Option}
use Rattle.cov_model.specs.believed.Sound.{ModelView}
use Rattle.tuple_index.specs.Plan.{plan_of}
use Rattle.suite_facts.specs.Facts.{AreMarksOf}
use Rattle.suite_facts.proofs.CountLemmas.{IsCoverageTo}
use Rattle.suite_facts.proofs.coverage.count_sets.Given as goal

-- the sets before this one
abbrev pub invariant-loop-set : goal.invariant-loop-set
invariant-loop-set l = record {
  few : l.coverage.covered ≤ l.set * 2 ^ 32;
  counted : (m : ModelView) (rows : List (List (Option ℕ))) → l.plan ≡ plan_of m → AreMarksOf m rows l.marks → IsCoverageTo m rows l.set l.coverage;
}
