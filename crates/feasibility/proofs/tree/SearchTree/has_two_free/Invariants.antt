use Rattle.std.specs.Prelude.{IfSome}
use Rattle.feasibility.specs.Live.{IsFree}
use Rattle.feasibility.proofs.tree.SearchTree.has_two_free.Given as goal

abbrev pub invariant-loop-j : goal.invariant-loop-j
invariant-loop-j l = IfSome l.found (IsFree l.self.model l.rule l.cells)
