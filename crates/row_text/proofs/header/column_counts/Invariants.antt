use Rattle.row_text.proofs.ColumnSteps.{CountsSoFar}
use Rattle.row_text.proofs.header.column_counts.Given as goal

abbrev pub invariant-loop-column : goal.invariant-loop-column
invariant-loop-column l = CountsSoFar l.params l.columns l.column-index l.counts.items
