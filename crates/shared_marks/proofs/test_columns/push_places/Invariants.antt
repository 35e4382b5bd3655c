use Rattle.std.proofs.Common.{◌≡◌, ◌++◌, map, take}
use Rattle.shared_marks.specs.TestColumns.{digit_in}
use Rattle.shared_marks.proofs.test_columns.push_places.Given as goal

abbrev pub invariant-loop-test : goal.invariant-loop-test
invariant-loop-test l = l.column.items ≡ l.fn.column.items ++ map (digit_in l.model l.p) (take l.test-index (map (λ row. row.now) l.tests))
