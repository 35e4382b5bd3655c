use Rattle.std.proofs.Common.{length}
use Rattle.seq_check.proofs.report_line.+are_distinct.Given as goal

abbrev pub decreases-are_distinct : goal.decreases-are_distinct
decreases-are_distinct l = length l.sequence.now
