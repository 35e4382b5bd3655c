use Rattle.std.proofs.Common.{◌≡◌, take}
use Rattle.std.specs.List.{count_by}
use Rattle.cov_model.specs.believed.Meaning.{value_at}
use Rattle.proof_check.proofs.listed.count_negatives.Given as goal

abbrev pub invariant-loop-pair : goal.invariant-loop-pair
invariant-loop-pair l = l.count ≡ count_by (λ pair. (value_at l.model pair.0 pair.1).negative) (take l.pair-index l.tuple)
