use Rattle.std.proofs.Common.{◌≡◌, ℕ, ◌<◌, false, get_or}
use Rattle.live_sets.specs.Trail.{mark_at}
use Rattle.feasibility.proofs.tree.SearchTree.first_live.Given as goal

-- the values before this one aren't live
abbrev pub invariant-loop-k : goal.invariant-loop-k
invariant-loop-k l = (j : ℕ) → j < l.k → mark_at l.sets.live l.p (get_or l.values j 0) ≡ false
