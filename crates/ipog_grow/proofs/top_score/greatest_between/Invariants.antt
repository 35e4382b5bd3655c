use Rattle.std.proofs.Common.{◌≡◌, ◌<◌, ◌≤◌, ℕ, get_or}
use Rattle.ipog_grow.proofs.top_score.greatest_between.Given as goal

abbrev pub invariant-loop-k : goal.invariant-loop-k
invariant-loop-k l = record {
  most : (j : ℕ) → l.begin ≤ j → j < l.k → get_or l.scores j 0 ≤ l.most;
  own : 0 < l.most → (j : ℕ) × (l.begin ≤ j) × (j < l.end) × (get_or l.scores j 0 ≡ l.most);
}
