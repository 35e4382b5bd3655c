use Rattle.std.proofs.Common.{◌≡◌, ◌++◌, All, filter, length, map}
use Rattle.std.specs.List.{range_with_len}
use Rattle.cov_model.specs.believed.Sound.{param_at}
use Rattle.model_lint.specs.believed.Tests.{is_unused}
use Rattle.model_lint.specs.Unused.{IsExplained, value_of}
use Rattle.model_lint.proofs.unused.Values.add_unused.Given as goal

-- the values before this one are told
abbrev pub invariant-loop-v : goal.invariant-loop-v
invariant-loop-v g l =
    (l.count ≡ length (param_at l.self.model.now.params l.p).values) × (length l.room ≡ length l.self.model.now.params) × (g.A.Asker.about l.asker ≡ g.A.Asker.about l.initial.asker)
    × All (IsExplained l.self.model.now) l.list
    × (map value_of l.list ≡ map value_of l.initial.list ++ filter (is_unused l.self.model.now) (map (λ v. (l.p, v)) (range_with_len 0 l.v)))
