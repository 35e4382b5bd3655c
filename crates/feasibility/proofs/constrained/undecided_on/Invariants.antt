use Rattle.std.proofs.Common.{◌≡◌, take}
use Rattle.feasibility.specs.Tree.{undecided_on}
use Rattle.feasibility.proofs.constrained.undecided_on.Given as goal

-- the list has those of the constraints before this place
abbrev pub invariant-loop-number : goal.invariant-loop-number
invariant-loop-number l = l.list.items ≡ undecided_on l.rules (take l.number-index l.numbers) l.cells
