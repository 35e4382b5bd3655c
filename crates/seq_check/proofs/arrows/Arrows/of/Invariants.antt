use Rattle.std.proofs.Common.{take}
use Rattle.seq_check.specs.EventSets.{AreOf}
use Rattle.seq_check.proofs.arrows.Arrows.of.Given as goal

abbrev pub invariant-loop-pair : goal.invariant-loop-pair
invariant-loop-pair l = AreOf l.arrows (take l.pair-index l.pairs)
