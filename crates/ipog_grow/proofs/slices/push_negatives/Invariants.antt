use Rattle.std.proofs.Common.{◌≡◌, ◌++◌, length, map}
use Rattle.std.specs.List.{filter, range_with_len}
use Rattle.cov_model.specs.declared.slice.Slice.TheVariants.{Negative}
use Rattle.cov_model.specs.believed.Meaning.{value_at}
use Rattle.cov_model.specs.believed.Sound.{param_at}
use Rattle.ipog_grow.proofs.slices.push_negatives.Given as goal

-- the slices of the values before this one
abbrev pub invariant-loop-v : goal.invariant-loop-v
invariant-loop-v l =
    (l.values ≡ (param_at l.model.params l.p).values) × (l.count ≡ length l.values)
    × (l.list.items ≡ l.initial.list.items ++ map (λ v. Negative l.p v) (filter (λ v. (value_at l.model l.p v).negative) (range_with_len 0 l.v)))
