use Rattle.std.proofs.Common.{◌≡◌, ◌≤◌, ◌+◌, ◌++◌, length, drop, vec_len, vec_capacity}
use Rattle.refutation.specs.Lines.{spaced, pair_words}
use Rattle.refutation.proofs.writing.put_pairs.Given as goal

-- what is put already and what is left are what is put in the end
abbrev pub invariant-loop-pair : goal.invariant-loop-pair
invariant-loop-pair l = record {
  text : l.into.items ++ spaced (pair_words (drop l.pair-index l.pairs)) ≡ l.initial.into.items ++ spaced (pair_words l.pairs);
  len : vec_len l.into + length (spaced (pair_words (drop l.pair-index l.pairs))) ≡ vec_len l.initial.into + length (spaced (pair_words l.pairs));
  capacity : vec_capacity l.initial.into ≤ vec_capacity l.into;
}
