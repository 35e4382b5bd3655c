use Rattle.std.proofs.Common.{◌≡◌, None, find, take}
use Rattle.feasibility.specs.Live.{no_on}
use Rattle.feasibility.proofs.refuter.Refuter.first_no_of.Given as goal

-- none of the constraints before this one is No
abbrev pub invariant-loop-rule : goal.invariant-loop-rule
invariant-loop-rule l = find (no_on l.self.model l.cells) (take l.rule-index l.rules) ≡ None
