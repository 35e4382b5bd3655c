use Rattle.std.proofs.Common.{◌≡◌, take}
use Rattle.seq_check.proofs.lists.with_event.Given as goal

abbrev pub invariant-loop-other : goal.invariant-loop-other
invariant-loop-other l = l.list ≡ take l.other-index l.front
