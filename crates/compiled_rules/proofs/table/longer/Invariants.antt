use Rattle.std.proofs.Common.{◌≡◌, ◌<◌, length, take}
use Rattle.compiled_rules.proofs.table.longer.Given as goal

abbrev pub invariant-loop-i : goal.invariant-loop-i
invariant-loop-i l = record {
  count : l.count ≡ length l.bits;
  more : l.count < l.size;
  long : length l.more ≡ l.size;
  copied : take l.i l.more ≡ take l.i l.bits;
}
