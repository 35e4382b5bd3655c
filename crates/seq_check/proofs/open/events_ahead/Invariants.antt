use Rattle.std.proofs.Common.{◌≡◌, ℕ, ◌&&◌, nat_lt, slice_index}
use Rattle.seq_check.specs.EventSets.{in_set}
use Rattle.seq_check.proofs.open.events_ahead.Given as goal

abbrev pub invariant-loop-other : goal.invariant-loop-other
invariant-loop-other l = (k : ℕ) → in_set l.ahead k ≡ (nat_lt k l.other && nat_lt (slice_index l.places k) (slice_index l.places l.event))
