use Rattle.std.proofs.Common.{◌≡◌, ◌+◌, ◌<◌, ◌≤◌, ℕ, None, get_or, length}
use Rattle.uncovered_table.specs.Bits.{bit_count, line_bit}
use Rattle.uncovered_table.proofs.held.add_line.Given as goal

abbrev pub invariant-loop-i : goal.invariant-loop-i
invariant-loop-i l = record {
  long : length l.scores ≡ length l.fn.scores;
  done : (k : ℕ) → k < l.i → get_or l.scores k 0 ≡ get_or l.fn.scores k 0 + bit_count l.bits (line_bit l.line (get_or l.digits k None));
  rest : (k : ℕ) → l.i ≤ k → get_or l.scores k 0 ≡ get_or l.fn.scores k 0;
}
