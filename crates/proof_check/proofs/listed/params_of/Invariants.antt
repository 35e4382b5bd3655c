use Rattle.std.proofs.Common.{◌≡◌, map, take}
use Rattle.proof_check.proofs.listed.params_of.Given as goal

abbrev pub invariant-loop-pair : goal.invariant-loop-pair
invariant-loop-pair l = l.params.items ≡ map (λ pair. pair.0) (take l.pair-index l.tuple)
