use Rattle.std.proofs.Common.{◌≡◌, ◌+◌, ◌<◌, ◌≤◌, ℕ, get_or, length, sum_by, take}
use Rattle.uncovered_table.specs.Bits.{value_held}
use Rattle.uncovered_table.proofs.counts.put_few.Given as goal

abbrev pub invariant-loop-k : goal.invariant-loop-k
invariant-loop-k l = record {
  eight : length l.counts ≡ 8;
  each : (i : ℕ) → i < length l.scores → get_or l.counts i 0 ≡ sum_by (value_held l.sets.model l.sets.slice l.bits l.cells l.column (l.from + i))
      (take l.k l.lines.sets.items);
  few : (i : ℕ) → i < 8 → get_or l.counts i 0 ≤ l.k;
}
