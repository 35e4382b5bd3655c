use Rattle.std.proofs.Common.{length}
use Rattle.seq_check.specs.Checking.{Checked}
use Rattle.seq_check.proofs.verdict.check_orders.Given as goal

abbrev pub invariant-loop-rest : goal.invariant-loop-rest
invariant-loop-rest l = Checked l.events l.report l.opened l.line l.rows l.omissions l.rest

abbrev pub decreases-loop-rest : goal.decreases-loop-rest
decreases-loop-rest l = length l.rest
