use Rattle.std.proofs.Common.{◌≡◌, ◌≤◌, ◌+◌, ◌*◌, ◌^◌, List, ℕ, Option}
use Rattle.suite_shrink.specs.Coverage.{AreMarksOf}
use Rattle.suite_shrink.proofs.LeastLemmas.{by_params}
use Rattle.suite_shrink.proofs.least.least_needed.Given as goal

-- the parameters before this one
abbrev pub invariant-loop-p : goal.invariant-loop-p
invariant-loop-p l = record {
  few : l.least ≤ 2 ^ 26 + l.p * (2 ^ 16 * 2 ^ 26);
  count : (rows : List (List (Option ℕ))) → AreMarksOf l.model rows l.marks → l.least ≡ by_params l.model rows l.p;
}
