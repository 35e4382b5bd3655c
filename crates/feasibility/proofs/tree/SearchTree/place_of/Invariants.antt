use Rattle.std.proofs.Common.{◌≡◌, length}
use Rattle.definitions.specs.believed.Search.{constrained_params}
use Rattle.feasibility.proofs.tree.SearchTree.place_of.Given as goal

abbrev pub invariant-loop-i : goal.invariant-loop-i
invariant-loop-i l = l.count ≡ length (constrained_params l.self.model)
