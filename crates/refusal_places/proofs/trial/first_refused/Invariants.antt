use Rattle.std.proofs.Common.{◌-◌, ◌≤◌, length}
use Rattle.refusal_places.proofs.trial.first_refused.Given as goal

abbrev pub invariant-loop-low : goal.invariant-loop-low
invariant-loop-low l = l.high ≤ length l.parts

abbrev pub decreases-loop-low : goal.decreases-loop-low
decreases-loop-low l = l.high - l.low
