use Rattle.suspect_tuples.specs.ValueRows.{AreValueRows}
use Rattle.suspect_tuples.proofs.value_rows.value_rows.Given as goal

abbrev pub invariant-loop-value : goal.invariant-loop-value
invariant-loop-value l = AreValueRows l.rows l.param l.value l.sets
