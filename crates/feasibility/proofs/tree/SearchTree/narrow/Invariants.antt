use Rattle.std.proofs.Common.{◌≡◌, take}
use Rattle.feasibility.specs.Live.{NarrowedBy}
use Rattle.feasibility.proofs.tree.SearchTree.narrow.Given as goal

abbrev pub invariant-loop-w : goal.invariant-loop-w
invariant-loop-w l = record {
  cells : l.cells ≡ l.initial.cells;
  by : NarrowedBy l.self.model l.rule l.q (take l.w-index l.w-items) l.initial.cells l.initial.sets l.sets;
}
