use Rattle.std.proofs.Common.{◌++◌}
use Rattle.suspect_tuples.proofs.RowBitLemmas.{NoneBefore}
use Rattle.suspect_tuples.proofs.row_bits.has_by_words.Given as goal

abbrev pub invariant-loop-k : goal.invariant-loop-k
invariant-loop-k l = NoneBefore l.rows (l.first ++ l.second) l.k
