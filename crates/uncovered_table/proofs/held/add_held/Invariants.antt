use Rattle.std.proofs.Common.{◌≡◌, ◌+◌, ◌<◌, ◌≤◌, ℕ, get_or, length, sum_by, take}
use Rattle.uncovered_table.specs.Bits.{value_held}
use Rattle.uncovered_table.proofs.held.add_held.Given as goal

abbrev pub invariant-loop-k : goal.invariant-loop-k
invariant-loop-k l = record {
  long : length l.scores ≡ length l.fn.scores;
  each : (i : ℕ) → i < length l.fn.scores → get_or l.scores i 0 ≡ sum_by (value_held l.sets.model l.sets.slice l.bits l.cells l.column (l.from + i))
      (take l.k l.walked);
  few : (i : ℕ) → i < length l.fn.scores → get_or l.scores i 0 ≤ l.k;
}
