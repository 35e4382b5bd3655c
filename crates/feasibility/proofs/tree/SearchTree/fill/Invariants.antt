use Rattle.std.proofs.Common.{◌≡◌, length}
use Rattle.feasibility.proofs.Nodes.{FilledTo}
use Rattle.feasibility.proofs.tree.SearchTree.fill.Given as goal

abbrev pub invariant-loop-p : goal.invariant-loop-p
invariant-loop-p l = (l.count ≡ length l.self.model.params) × FilledTo l.self.values l.initial.cells l.cells l.p
