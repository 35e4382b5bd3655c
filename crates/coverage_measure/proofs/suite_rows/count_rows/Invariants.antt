use Rattle.std.proofs.Common.{◌≡◌, take}
use Rattle.row_text.specs.RowFiles.{suite_seen}
use Rattle.coverage_measure.specs.SuiteRows.{row_counts}
use Rattle.coverage_measure.proofs.suite_rows.count_rows.Given as goal

abbrev pub invariant-loop-row : goal.invariant-loop-row
invariant-loop-row l = l.counts ≡ row_counts l.model (take l.row-index (suite_seen l.suite))
