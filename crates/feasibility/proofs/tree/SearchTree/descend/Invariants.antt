use Rattle.std.proofs.Common.{◌≡◌, ◌-◌, ◌<◌, length}
use Rattle.definitions.specs.believed.Search.{constrained_params}
use Rattle.live_sets.specs.Trail.{IsSince}
use Rattle.feasibility.specs.Descent.{ComesTo, IsNode}
use Rattle.feasibility.specs.Tree.{constrained_from}
use Rattle.feasibility.proofs.tree.SearchTree.descend.Given as goal

abbrev pub invariant-loop-i : goal.invariant-loop-i
invariant-loop-i l = record {
  node : IsNode l.self l.cells l.sets;
  some : 0 < l.count;
  comes : ComesTo l.self (constrained_params l.self.model) (constrained_from l.self.model l.i) l.initial.cells l.cells (l.count - 1);
  since : IsSince l.initial.sets l.sets;
  long : length l.cells ≡ length l.initial.cells;
}
