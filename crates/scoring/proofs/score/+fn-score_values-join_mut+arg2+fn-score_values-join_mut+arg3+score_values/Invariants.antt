use Rattle.std.proofs.Common.{◌-◌}
use Rattle.scoring.proofs.score.+fn-score_values-join_mut+arg2+fn-score_values-join_mut+arg3+score_values.Given as goal

abbrev pub decreases-join_mut+arg2 : goal.decreases-join_mut+arg2
decreases-join_mut+arg2 g l = l.half

abbrev pub decreases-join_mut+arg3 : goal.decreases-join_mut+arg3
decreases-join_mut+arg3 g l = l.workers - l.half

abbrev pub decreases-score_values : goal.decreases-score_values
decreases-score_values g l = l.workers
