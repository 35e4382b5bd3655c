use Rattle.std.proofs.Common.{◌≡◌, take}
use Rattle.feasibility.proofs.Looking.{AheadTo}
use Rattle.feasibility.proofs.tree.SearchTree.look_ahead.Given as goal

abbrev pub invariant-loop-j : goal.invariant-loop-j
invariant-loop-j l = record {
  cells : l.cells ≡ l.initial.cells;
  to : AheadTo l.self.model l.rule l.initial.cells (take l.j l.members) l.initial.sets l.sets;
}
