use Rattle.std.proofs.Common.{◌≡◌, None, find, length}
use Rattle.std.specs.List.{range_with_len}
use Rattle.feasibility.specs.Live.{no_on}
use Rattle.full_search.proofs.failing.first_no.Given as goal

-- none of the constraints before this one is No
abbrev pub invariant-loop-i : goal.invariant-loop-i
invariant-loop-i l = (l.count ≡ length l.tree.model.rules) × (find (no_on l.tree.model l.cells) (range_with_len 1 l.i) ≡ None)
