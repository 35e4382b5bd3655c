use Rattle.std.proofs.Common.{◌≡◌, take}
use Rattle.feasibility.specs.Live.{LookedAt}
use Rattle.feasibility.proofs.tree.SearchTree.look_at_each.Given as goal

abbrev pub invariant-loop-rule : goal.invariant-loop-rule
invariant-loop-rule l = record {
  cells : l.cells ≡ l.initial.cells;
  to : LookedAt l.self.model (take l.rule-index l.rules) l.initial.cells l.initial.sets l.sets;
}
