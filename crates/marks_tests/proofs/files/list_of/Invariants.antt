use Rattle.std.proofs.Common.{◌≡◌, length}
use Rattle.std.specs.Prelude.{All}
use Rattle.cov_model.specs.Fits.{FitsModel}
use Rattle.marks_tests.proofs.files.list_of.Given as goal

abbrev pub invariant-loop-i : goal.invariant-loop-i
invariant-loop-i l = All (λ row. FitsModel l.model row.cells) l.list × (length l.list ≡ l.i)
