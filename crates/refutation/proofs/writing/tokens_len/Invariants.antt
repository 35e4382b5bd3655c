use Rattle.std.proofs.Common.{◌≡◌, ◌-◌, ◌^◌, min, length, take}
use Rattle.refutation.specs.Lines.{spaced, token_words}
use Rattle.refutation.proofs.writing.tokens_len.Given as goal

abbrev pub invariant-loop-token : goal.invariant-loop-token
invariant-loop-token l = l.total ≡ min (length (spaced (token_words (take l.token-index l.tokens)))) (2 ^ 64 - 1)
