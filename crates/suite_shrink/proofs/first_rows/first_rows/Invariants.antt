use Rattle.suite_shrink.specs.FirstRows.{AreFirst}
use Rattle.suite_shrink.proofs.first_rows.first_rows.Given as goal

abbrev pub invariant-loop-number : goal.invariant-loop-number
invariant-loop-number l = AreFirst l.model l.given l.number l.known l.first.numbers.items l.first.rows
