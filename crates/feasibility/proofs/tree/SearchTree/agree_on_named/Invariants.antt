use Rattle.std.proofs.Common.{◌≡◌, ℕ, ◌<◌, None, length, get_or}
use Rattle.definitions.specs.believed.Search.{constrained_params}
use Rattle.feasibility.proofs.tree.SearchTree.agree_on_named.Given as goal

abbrev pub invariant-loop-i : goal.invariant-loop-i
invariant-loop-i l = record {
  count : l.count ≡ length (constrained_params l.self.model);
  same : (j : ℕ) → j < l.i
      → get_or l.cells (get_or (constrained_params l.self.model) j 0) None ≡ get_or l.others (get_or (constrained_params l.self.model) j 0) None;
}
