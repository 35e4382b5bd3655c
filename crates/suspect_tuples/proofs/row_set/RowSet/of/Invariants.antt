use Rattle.suspect_tuples.proofs.RowSetLemmas.{MarkNumbers}
use Rattle.suspect_tuples.proofs.row_set.RowSet.of.Given as goal

abbrev pub invariant-loop-number : goal.invariant-loop-number
invariant-loop-number l = MarkNumbers l.numbers l.number-index l.count l.words.items
