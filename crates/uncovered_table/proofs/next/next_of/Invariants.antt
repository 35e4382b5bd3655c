use Rattle.std.proofs.Common.{◌≡◌, drop}
use Rattle.uncovered_table.specs.Bits.{next_of}
use Rattle.uncovered_table.proofs.next.next_of.Given as goal

abbrev pub invariant-loop-i : goal.invariant-loop-i
invariant-loop-i l = next_of l.sets.model l.sets.slice l.bits l.from (drop l.i l.in_play) ≡ next_of l.sets.model l.sets.slice l.bits l.from l.in_play
