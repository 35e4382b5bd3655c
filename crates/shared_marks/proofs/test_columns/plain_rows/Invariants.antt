use Rattle.std.proofs.Common.{◌≡◌, map, take}
use Rattle.std.specs.List.{filter}
use Rattle.shared_marks.specs.TestColumns.{is_plain}
use Rattle.shared_marks.proofs.test_columns.plain_rows.Given as goal

abbrev pub invariant-loop-row : goal.invariant-loop-row
invariant-loop-row l = map (λ row. row.now) l.tests.items ≡ filter (is_plain l.model) (map (λ row. row.cells) (take l.row-index l.rows))
