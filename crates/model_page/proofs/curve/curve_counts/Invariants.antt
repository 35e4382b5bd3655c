use Rattle.std.proofs.Common.{◌≡◌, ◌+◌, ◌*◌, ◌∷◌, map}
use Rattle.std.specs.Prelude.{◌/◌}
use Rattle.std.specs.List.{range_with_len}
use Rattle.model_page.proofs.curve.curve_counts.Given as goal

-- the points before the end of this step
abbrev pub invariant-loop-step : goal.invariant-loop-step
invariant-loop-step l = l.counts.items ≡ 0 ∷ map (λ i. (i + 1) * l.count / l.steps) (range_with_len 0 l.step)
