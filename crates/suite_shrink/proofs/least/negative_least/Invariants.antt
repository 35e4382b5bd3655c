use Rattle.std.proofs.Common.{◌≡◌, ◌≤◌, ◌*◌, ◌^◌, List, ℕ, Option}
use Rattle.suite_shrink.specs.Coverage.{AreMarksOf}
use Rattle.suite_shrink.proofs.LeastLemmas.{by_value}
use Rattle.suite_shrink.proofs.least.negative_least.Given as goal

-- the values before this one
abbrev pub invariant-loop-v : goal.invariant-loop-v
invariant-loop-v l = record {
  few : l.least ≤ l.v * 2 ^ 26;
  count : (rows : List (List (Option ℕ))) → AreMarksOf l.model rows l.marks → l.least ≡ by_value l.model rows l.p l.v;
}
