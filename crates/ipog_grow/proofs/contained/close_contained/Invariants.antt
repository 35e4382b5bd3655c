use Rattle.std.proofs.Common.{◌≡◌, length}
use Rattle.ipog_grow.proofs.ContainedLemmas.{Started}
use Rattle.ipog_grow.proofs.contained.close_contained.Given as goal

abbrev pub invariant-loop-i : goal.invariant-loop-i
invariant-loop-i l = record {
  started : Started l.column l.fn.table l.table l.rows l.i;
  long : length l.room ≡ length l.fn.room;
}
