use Rattle.shared_marks.proofs.OpenLemmas.{HasLooked}
use Rattle.shared_marks.proofs.table.SharedMarks.are_marked.Given as goal

abbrev pub invariant-loop-place : goal.invariant-loop-place
invariant-loop-place l = HasLooked l.from l.place l.fn.seat l.seat
