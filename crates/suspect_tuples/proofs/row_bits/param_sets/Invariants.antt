use Rattle.suspect_tuples.specs.RowTables.{AreParamSets}
use Rattle.suspect_tuples.proofs.row_bits.param_sets.Given as goal

abbrev pub invariant-loop-param : goal.invariant-loop-param
invariant-loop-param l = AreParamSets l.model l.rows l.param l.sets
