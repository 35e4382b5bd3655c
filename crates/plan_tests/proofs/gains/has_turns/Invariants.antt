use Rattle.std.proofs.Common.{◌≡◌}
use Rattle.cov_model.specs.declared.slice.Slice.TheVariants.{Positive}
use Rattle.plan_tests.proofs.gains.has_turns.Given as goal

abbrev pub invariant-loop-turn : goal.invariant-loop-turn
invariant-loop-turn l = (l.table.model ≡ l.model) × (l.table.slice ≡ Positive)
