use Rattle.std.proofs.Common.{◌≡◌, ◌+◌, ◌*◌}
use Rattle.refutation.proofs.TreeLemmas.{free_count, GoesOn}
use Rattle.refutation.proofs.tree_check.TreeCheck.+trees.Given as goal

abbrev pub decreases-after_tree : goal.decreases-after_tree
decreases-after_tree l = 3 * free_count l.path.now + 2

abbrev pub decreases-after_branch : goal.decreases-after_branch
decreases-after_branch l = 3 * free_count l.path.now + 1

abbrev pub decreases-after_child : goal.decreases-after_child
decreases-after_child l = 3 * free_count l.path.now

-- what stands behind the tokens of the branches so far is what stands behind the first of those that are left
abbrev pub invariant-after_branch-loop-v : goal.invariant-after_branch-loop-v
invariant-after_branch-loop-v l = record {
  path : l.path ≡ l.fn.path;
  going : GoesOn l.self l.fn.path l.p l.v l.tokens l.rest;
}
