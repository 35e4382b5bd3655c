use Rattle.shared_marks.proofs.workers.+fn-mark_range-join+arg2+fn-mark_range-join+arg3+mark_range.Given as goal

abbrev pub decreases-join+arg2 : goal.decreases-join+arg2
decreases-join+arg2 g l = l.half

abbrev pub decreases-join+arg3 : goal.decreases-join+arg3
decreases-join+arg3 g l = l.rest

abbrev pub decreases-mark_range : goal.decreases-mark_range
decreases-mark_range g l = l.workers
