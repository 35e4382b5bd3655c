use Rattle.std.proofs.Common.{◌≡◌, All, filter, flat_map, length, map}
use Rattle.std.specs.List.{range_with_len}
use Rattle.model_lint.specs.believed.Tests.{is_unused, values_of}
use Rattle.model_lint.specs.Unused.{IsExplained, value_of}
use Rattle.model_lint.proofs.unused.unused_values.Given as goal

-- the values of the parameters before this one are told
abbrev pub invariant-loop-p : goal.invariant-loop-p
invariant-loop-p g l =
    (l.count ≡ length l.model.params) × (length l.room ≡ length l.model.params) × (g.A.Asker.about l.asker ≡ l.model) × All (IsExplained l.model) l.list
    × (map value_of l.list ≡ filter (is_unused l.model) (flat_map (values_of l.model) (range_with_len 0 l.p)))
