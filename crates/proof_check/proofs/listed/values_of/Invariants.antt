use Rattle.std.proofs.Common.{◌≡◌, map, take}
use Rattle.proof_check.proofs.listed.values_of.Given as goal

abbrev pub invariant-loop-pair : goal.invariant-loop-pair
invariant-loop-pair l = l.values.items ≡ map (λ pair. pair.1) (take l.pair-index l.tuple)
