use Rattle.std.proofs.Common.{◌≢◌, ℕ, ◌<◌, get_or}
use Rattle.ipog_grow.proofs.value_order.ValueOrder.best.Given as goal

-- no value before this place has the greatest score
abbrev pub invariant-loop-k : goal.invariant-loop-k
invariant-loop-k l = (j : ℕ) → j < l.k → get_or l.scores (get_or l.self j 0) 0 ≢ l.most.score
