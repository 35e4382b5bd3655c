use Rattle.std.proofs.Common.{◌≡◌, true, All, length, take}
use Rattle.cov_model.specs.believed.Valid.{is_valid}
use Rattle.suite_shrink.proofs.valid.are_valid.Given as goal

-- the rows before this one are valid
abbrev pub invariant-loop-i : goal.invariant-loop-i
invariant-loop-i l = record {
  long : length l.cells ≡ length l.model.params;
  valid : All (λ row. is_valid l.model row ≡ true) (take l.i l.rows);
}
