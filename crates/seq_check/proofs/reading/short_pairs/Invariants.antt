use Rattle.std.proofs.Common.{◌≡◌, take}
use Rattle.seq_check.proofs.reading.short_pairs.Given as goal

abbrev pub invariant-loop-pair : goal.invariant-loop-pair
invariant-loop-pair l = l.short ≡ take l.pair-index l.pairs
