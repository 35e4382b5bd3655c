use Rattle.std.proofs.Common.{◌≡◌, false, take}
use Rattle.feasibility.specs.Live.{breaks_one}
use Rattle.feasibility.proofs.tree.SearchTree.breaks_one.Given as goal

-- none before this place is No
abbrev pub invariant-loop-rule : goal.invariant-loop-rule
invariant-loop-rule l = breaks_one l.self.model (take l.rule-index l.rules) l.cells ≡ false
