use Rattle.std.proofs.Common.{◌≡◌, ◌+◌, ◌<◌, ◌≤◌, ℕ, get_or, length}
use Rattle.std.specs.Int.{bit_at}
use Rattle.uncovered_table.proofs.lanes.add_each.Given as goal

abbrev pub invariant-loop-i : goal.invariant-loop-i
invariant-loop-i l = record {
  long : length l.scores ≡ length l.fn.scores;
  done : (k : ℕ) → k < l.i → get_or l.scores k 0 ≡ get_or l.fn.scores k 0 + bit_at l.word k;
  rest : (k : ℕ) → l.i ≤ k → get_or l.scores k 0 ≡ get_or l.fn.scores k 0;
}
