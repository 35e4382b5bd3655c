use Rattle.std.proofs.Common.{◌≡◌, ◌≢◌, ℕ, ◌<◌, length}
use Rattle.definitions.specs.believed.Search.{constrained_params}
use Rattle.feasibility.specs.Tree.{constrained_at}
use Rattle.full_search.proofs.branching.place_of.Given as goal

-- none before this place is the one
abbrev pub invariant-loop-i : goal.invariant-loop-i
invariant-loop-i l = record {
  count : l.count ≡ length (constrained_params l.tree.model);
  away : (j : ℕ) → j < l.i → constrained_at l.tree.model j ≢ l.p;
}
