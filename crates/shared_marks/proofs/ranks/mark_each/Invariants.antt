use Rattle.std.proofs.Common.{take}
use Rattle.shared_marks.specs.Adding.{Marks, are_behind}
use Rattle.shared_marks.proofs.ranks.mark_each.Given as goal

abbrev pub invariant-loop-rank : goal.invariant-loop-rank
invariant-loop-rank l = Marks (are_behind l.base (take l.rank-index l.ranks)) l.initial.seat l.seat
