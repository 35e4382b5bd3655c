use Rattle.std.proofs.Common.{◌≡◌, length}
use Rattle.plan_tests.proofs.gains.put_row.Given as goal

abbrev pub invariant-loop-p : goal.invariant-loop-p
invariant-loop-p l = length l.row ≡ length l.model.params
