use Rattle.std.proofs.Common.{◌≡◌, false, length, take}
use Rattle.definitions.specs.believed.Demand.{is_among}
use Rattle.definitions.specs.believed.Search.{constrained_params}
use Rattle.feasibility.proofs.tree.SearchTree.is_constrained.Given as goal

-- none of the constrained parameters before this place is the one
abbrev pub invariant-loop-i : goal.invariant-loop-i
invariant-loop-i l =
    (l.count ≡ length (constrained_params l.self.model)) × (is_among (take l.i (constrained_params l.self.model)) l.q ≡ false)
