use Rattle.std.proofs.Common.{◌≡◌, ◌-◌, drop}
use Rattle.definitions.specs.believed.ProofText.{is_rising}
use Rattle.refutation.proofs.reading.is_rising.Given as goal

abbrev pub invariant-loop-i : goal.invariant-loop-i
invariant-loop-i l = is_rising l.pairs ≡ is_rising (drop (l.i - 1) l.pairs)
