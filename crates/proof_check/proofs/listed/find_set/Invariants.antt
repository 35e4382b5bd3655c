use Rattle.std.proofs.Common.{ℕ, ◌-◌, ◌<◌, ◌≤◌, length}
use Rattle.std.specs.Prelude.{◌≢◌}
use Rattle.tuple_index.specs.Plan.{set_at}
use Rattle.proof_check.proofs.listed.find_set.Given as goal

abbrev pub invariant-loop-low : goal.invariant-loop-low
invariant-loop-low l =
    (l.low ≤ l.high) × (l.high ≤ length l.plan.sets)
    × ((set : ℕ) → set < l.low → set_at l.plan set ≢ l.params)
    × ((set : ℕ) → l.high ≤ set → set < length l.plan.sets → set_at l.plan set ≢ l.params)

abbrev pub decreases-loop-low : goal.decreases-loop-low
decreases-loop-low l = l.high - l.low
