use Rattle.std.proofs.Common.{◌≡◌, false, take}
use Rattle.std.specs.Prelude.{AllPairs}
use Rattle.definitions.specs.believed.Seeds.{is_same_row}
use Rattle.suite_shrink.proofs.valid.are_distinct.Given as goal

-- the rows before this one are known, and no two are the same
abbrev pub invariant-loop-i : goal.invariant-loop-i
invariant-loop-i l = record {
  known : l.known ≡ take l.i l.rows;
  apart : AllPairs (λ a b. is_same_row a b ≡ false) (take l.i l.rows);
}
