use Rattle.std.proofs.Common.{◌-◌, ◌≤◌, length}
use Rattle.ipog_grow.specs.TopScores.{IsGreatest}
use Rattle.ipog_grow.proofs.top_score.greatest.Given as goal

abbrev pub invariant-loop-begin : goal.invariant-loop-begin
invariant-loop-begin l = record {
  within : l.begin ≤ length l.scores;
  top : IsGreatest l.scores l.begin l.most;
}

abbrev pub decreases-loop-begin : goal.decreases-loop-begin
decreases-loop-begin l = length l.scores - l.begin
