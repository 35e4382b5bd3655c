use Rattle.std.proofs.Common.{◌≡◌}
use Rattle.seq_check.specs.EventSets.{places}
use Rattle.seq_check.proofs.places.places_of.Given as goal

abbrev pub invariant-loop-event : goal.invariant-loop-event
invariant-loop-event l = l.places.items ≡ places l.event l.order
