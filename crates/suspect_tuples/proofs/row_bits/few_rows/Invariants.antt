use Rattle.std.proofs.Common.{take}
use Rattle.suspect_tuples.specs.ValueRows.{AreMany}
use Rattle.suspect_tuples.proofs.row_bits.few_rows.Given as goal

abbrev pub invariant-loop-pair : goal.invariant-loop-pair
invariant-loop-pair l = AreMany l.giving (take l.pair-index l.tuple)
