use Rattle.std.proofs.Common.{◌≡◌, None, find, take}
use Rattle.feasibility.specs.Live.{no_on}
use Rattle.full_search.proofs.reason.first_broken.Given as goal

-- none of the constraints before this one is No
abbrev pub invariant-loop-rule : goal.invariant-loop-rule
invariant-loop-rule l = find (no_on l.tree.model l.cells) (take l.rule-index l.rule-items) ≡ None
