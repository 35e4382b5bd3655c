use Rattle.std.proofs.Common.{◌≡◌, length}
use Rattle.marks_tests.proofs.files.cells_of.Given as goal

abbrev pub invariant-loop-p : goal.invariant-loop-p
invariant-loop-p l = length l.cells ≡ length l.values
