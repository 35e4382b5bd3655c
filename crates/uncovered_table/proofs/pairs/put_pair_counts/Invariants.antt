use Rattle.std.proofs.Common.{◌≡◌, ◌+◌, ◌<◌, ℕ, get_or, length, sum_by}
use Rattle.uncovered_table.specs.Bits.{sets_in_play, value_held}
use Rattle.uncovered_table.proofs.pairs.put_pair_counts.Given as goal

-- the scores so far
abbrev pub invariant-loop-i : goal.invariant-loop-i
invariant-loop-i l = record {
  long : length l.scores ≡ length l.fn.scores;
  each : (k : ℕ) → k < l.i → get_or l.scores k 0
      ≡ sum_by (value_held l.sets.model l.sets.slice l.bits l.cells l.column (l.from + k)) (sets_in_play l.sets.model l.sets.slice l.column);
}
