use Rattle.std.proofs.Common.{◌≡◌}
use Rattle.shared_marks.specs.TestColumns.{AreColumns}
use Rattle.shared_marks.proofs.ColumnLemmas.{PlacesSoFar}
use Rattle.shared_marks.proofs.test_columns.put_places.Given as goal

abbrev pub invariant-loop-p : goal.invariant-loop-p
invariant-loop-p l =
    (l.columns.tests ≡ l.initial.columns.tests) × AreColumns l.model l.columns × PlacesSoFar l.model l.initial.columns.tests l.members l.p-index l.into
