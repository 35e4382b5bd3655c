use Rattle.std.proofs.Common.{ℕ, ◌<◌}
use Rattle.suite_shrink.proofs.ContainLemmas.{GivesAt}
use Rattle.suite_shrink.proofs.seeds.contains.Given as goal

-- the row gives the values before this parameter
abbrev pub invariant-loop-p : goal.invariant-loop-p
invariant-loop-p l = (p : ℕ) → p < l.p → GivesAt l.row l.part p
