use Rattle.std.proofs.Common.{◌≡◌, ◌-◌, ◌^◌, min, length, take}
use Rattle.refutation.specs.Lines.{spaced, pair_words}
use Rattle.refutation.proofs.writing.pairs_len.Given as goal

abbrev pub invariant-loop-pair : goal.invariant-loop-pair
invariant-loop-pair l = l.total ≡ min (length (spaced (pair_words (take l.pair-index l.pairs)))) (2 ^ 64 - 1)
