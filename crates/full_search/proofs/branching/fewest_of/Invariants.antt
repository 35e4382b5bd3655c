use Rattle.full_search.specs.Branching.{CanBranch}
use Rattle.full_search.proofs.branching.fewest_of.Given as goal

abbrev pub invariant-loop-q : goal.invariant-loop-q
invariant-loop-q l = CanBranch l.tree.model l.cells l.best
