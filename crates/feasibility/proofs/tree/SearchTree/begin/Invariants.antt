use Rattle.std.proofs.Common.{◌≡◌, length}
use Rattle.std.specs.List.{range_with_len}
use Rattle.feasibility.specs.Live.{LookedAt}
use Rattle.feasibility.proofs.tree.SearchTree.begin.Given as goal

abbrev pub invariant-loop-i : goal.invariant-loop-i
invariant-loop-i l = record {
  count : l.count ≡ length l.self.model.rules;
  cells : l.cells ≡ l.fn.cells;
  to : LookedAt l.self.model (range_with_len 1 l.i) l.fn.cells l.fn.sets l.sets;
}
