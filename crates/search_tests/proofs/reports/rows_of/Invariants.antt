use Rattle.std.proofs.Common.{◌≡◌, true, All}
use Rattle.cov_model.specs.believed.Valid.{is_row}
use Rattle.search_tests.proofs.reports.rows_of.Given as goal

abbrev pub invariant-loop-first : goal.invariant-loop-first
invariant-loop-first l = All (λ row. is_row l.model row ≡ true) l.rows
