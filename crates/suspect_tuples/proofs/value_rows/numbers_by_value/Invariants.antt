use Rattle.std.proofs.Common.{map}
use Rattle.suspect_tuples.specs.ValueRows.{AreNumbers}
use Rattle.suspect_tuples.proofs.value_rows.numbers_by_value.Given as goal

abbrev pub invariant-loop-at : goal.invariant-loop-at
invariant-loop-at l = AreNumbers l.rows l.param l.count l.at (map (λ list. list.items) l.lists.items)
