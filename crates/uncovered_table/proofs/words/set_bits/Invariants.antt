use Rattle.std.proofs.Common.{◌≡◌, ◌<◌, ◌≤◌, ℕ, length}
use Rattle.uncovered_table.specs.Words.{bit_in}
use Rattle.uncovered_table.proofs.words.set_bits.Given as goal

-- the bits so far are set, and the others are as before
abbrev pub invariant-loop-place : goal.invariant-loop-place
invariant-loop-place l = record {
  long : length l.words ≡ length l.fn.words;
  some : l.from < l.place → l.place ≤ l.to;
  inside : (k : ℕ) → l.from ≤ k → k < l.place → bit_in l.words k ≡ 1;
  outside : (k : ℕ) → (l.from ≤ k → k < l.place → ⊥) → bit_in l.words k ≡ bit_in l.fn.words k;
}
