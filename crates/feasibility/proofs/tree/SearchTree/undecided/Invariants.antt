use Rattle.std.proofs.Common.{◌≡◌, ◌≢◌, ℕ, ◌<◌, get_or, length}
use Rattle.definitions.specs.believed.Search.{constrained_params}
use Rattle.feasibility.proofs.tree.SearchTree.undecided.Given as goal

-- none of the constrained parameters before this place is the one
abbrev pub invariant-loop-i : goal.invariant-loop-i
invariant-loop-i l = (l.count ≡ length (constrained_params l.self.model)) × ((k : ℕ) → k < l.i → get_or (constrained_params l.self.model) k 0 ≢ l.q)
