use Rattle.std.proofs.Common.{◌≡◌, length, not}
use Rattle.std.specs.List.{filter, range_with_len}
use Rattle.cov_model.specs.believed.Meaning.{value_at}
use Rattle.cov_model.specs.believed.Sound.{param_at}
use Rattle.feasibility.proofs.values.positives.Given as goal

-- the list has those of the values before this one
abbrev pub invariant-loop-v : goal.invariant-loop-v
invariant-loop-v l =
    (l.count ≡ length (param_at l.model.params l.p).values)
    × (l.list.items ≡ filter (λ w. not (value_at l.model l.p w).negative) (range_with_len 0 l.v))
