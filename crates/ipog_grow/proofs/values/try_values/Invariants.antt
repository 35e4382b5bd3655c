use Rattle.std.proofs.Common.{◌≡◌, sum}
use Rattle.ipog_grow.proofs.Trying.{Trying}
use Rattle.ipog_grow.proofs.values.try_values.Given as goal

-- the scores that are left decide
abbrev pub invariant-loop-v : goal.invariant-loop-v
invariant-loop-v l = record {
  context : l.asker.context ≡ l.fn.asker.context;
  row : l.row ≡ l.fn.row;
  trying : Trying l.fn.asker.context l.order l.column l.fn.row l.fn.scores l.scores;
}

abbrev pub decreases-loop-v : goal.decreases-loop-v
decreases-loop-v l = sum l.scores
