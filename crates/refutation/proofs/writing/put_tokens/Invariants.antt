use Rattle.std.proofs.Common.{◌≡◌, ◌≤◌, ◌+◌, ◌++◌, length, drop, vec_len, vec_capacity}
use Rattle.refutation.specs.Lines.{spaced, token_words}
use Rattle.refutation.proofs.writing.put_tokens.Given as goal

-- what is put already and what is left are what is put in the end
abbrev pub invariant-loop-token : goal.invariant-loop-token
invariant-loop-token l = record {
  text : l.into.items ++ spaced (token_words (drop l.token-index l.tokens)) ≡ l.initial.into.items ++ spaced (token_words l.tokens);
  len : vec_len l.into + length (spaced (token_words (drop l.token-index l.tokens))) ≡ vec_len l.initial.into + length (spaced (token_words l.tokens));
  capacity : vec_capacity l.initial.into ≤ vec_capacity l.into;
}
