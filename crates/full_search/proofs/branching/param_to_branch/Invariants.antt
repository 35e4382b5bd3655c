use Rattle.std.proofs.Common.{◌≡◌, ◌<◌, ◌≤◌, ◌-◌, length}
use Rattle.full_search.specs.Branching.{CanBranch}
use Rattle.full_search.proofs.branching.param_to_branch.Given as goal

abbrev pub decreases-loop-rule : goal.decreases-loop-rule
decreases-loop-rule l = l.end - l.from

abbrev pub invariant-loop-rule : goal.invariant-loop-rule
invariant-loop-rule l = record {
  end : l.end ≡ length l.witness.broken;
  some : 0 < l.from;
  most : l.from ≤ l.end;
  best : CanBranch l.tree.model l.cells l.best;
}
