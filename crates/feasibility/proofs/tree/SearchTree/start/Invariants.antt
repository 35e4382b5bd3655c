use Rattle.std.proofs.Common.{◌≡◌, length, take}
use Rattle.definitions.specs.believed.Search.{constrained_params}
use Rattle.feasibility.specs.Live.{LookedAt, undecided_of}
use Rattle.feasibility.proofs.tree.SearchTree.start.Given as goal

abbrev pub invariant-loop-i : goal.invariant-loop-i
invariant-loop-i l = record {
  count : l.count ≡ length (constrained_params l.self.model);
  cells : l.cells ≡ l.fn.cells;
  to : LookedAt l.self.model (undecided_of l.self.model l.fn.cells (take l.i (constrained_params l.self.model))) l.fn.cells l.fn.sets l.sets;
}
