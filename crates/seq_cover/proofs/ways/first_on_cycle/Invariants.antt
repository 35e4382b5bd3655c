use Rattle.std.proofs.Common.{◌≡◌, ℕ, ◌<◌, false}
use Rattle.seq_check.specs.EventSets.{in_set_at}
use Rattle.seq_cover.proofs.ways.first_on_cycle.Given as goal

abbrev pub invariant-loop-event : goal.invariant-loop-event
invariant-loop-event l = (k : ℕ) → k < l.event → in_set_at l.ways k k ≡ false
