use Rattle.std.proofs.Common.{take}
use Rattle.seq_check.specs.EventSets.{AreBack}
use Rattle.seq_check.proofs.arrows.Arrows.back.Given as goal

abbrev pub invariant-loop-pair : goal.invariant-loop-pair
invariant-loop-pair l = AreBack l.arrows (take l.pair-index l.pairs)
