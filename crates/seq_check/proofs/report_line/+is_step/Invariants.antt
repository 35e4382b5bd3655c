use Rattle.std.proofs.Common.{length}
use Rattle.seq_check.proofs.report_line.+is_step.Given as goal

abbrev pub decreases-is_step : goal.decreases-is_step
decreases-is_step l = length l.sequence.now
