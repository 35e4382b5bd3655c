use Rattle.std.proofs.Common.{◌≡◌, ◌++◌}
use Rattle.seq_check.specs.believed.Orders.{lengthened}
use Rattle.seq_check.proofs.lists.add_lengthened.Given as goal

abbrev pub invariant-loop-event : goal.invariant-loop-event
invariant-loop-event l = l.into ≡ l.initial.into ++ lengthened l.event-counter l.front
