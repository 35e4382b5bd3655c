use Rattle.suspect_tuples.proofs.RowSetLemmas.{MarkBefore}
use Rattle.suspect_tuples.proofs.row_set.RowSet.all.Given as goal

abbrev pub invariant-loop-at : goal.invariant-loop-at
invariant-loop-at l = MarkBefore l.at l.count l.words.items
