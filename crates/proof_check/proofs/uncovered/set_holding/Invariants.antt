use Rattle.std.proofs.Common.{◌≤◌, take}
use Rattle.std.specs.Prelude.{sum}
use Rattle.proof_check.proofs.uncovered.set_holding.Given as goal

abbrev pub invariant-loop-set : goal.invariant-loop-set
invariant-loop-set l = sum (take l.set l.plan.sizes) ≤ l.place
