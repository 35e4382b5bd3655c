use Rattle.std.proofs.Common.{◌≡◌, true, All}
use Rattle.cov_model.specs.believed.Valid.{is_valid}
use Rattle.measure_tests.proofs.shrinking.rows_of.Given as goal

abbrev pub invariant-loop-row : goal.invariant-loop-row
invariant-loop-row l = All (λ row. is_valid l.model row ≡ true) l.rows
