use Rattle.std.proofs.Common.{◌≡◌, ◌-◌, ◌%◌, ◌<◌, ◌≤◌}
use Rattle.proof_check.specs.Left.{NoneLeft}
use Rattle.proof_check.proofs.uncovered.first_place.Given as goal

abbrev pub invariant-loop-from : goal.invariant-loop-from
invariant-loop-from l = (l.from ≤ l.end) × (l.from < l.end → l.from % 64 ≡ 0) × NoneLeft l.left l.served l.from

abbrev pub decreases-loop-from : goal.decreases-loop-from
decreases-loop-from l = l.end - l.from
