use Rattle.shared_marks.proofs.ColumnLemmas.{AreAdded}
use Rattle.shared_marks.proofs.test_columns.add_digits.Given as goal

abbrev pub invariant-loop-at : goal.invariant-loop-at
invariant-loop-at l = AreAdded l.initial.numbers l.numbers l.digits l.radix l.at
