use Rattle.std.proofs.Common.{◌≡◌, false, length, take}
use Rattle.definitions.specs.believed.Search.{constrained_params}
use Rattle.feasibility.specs.Live.{breaks_one, undecided_of}
use Rattle.feasibility.proofs.tree.SearchTree.breaks_a_rule.Given as goal

-- none is No of those that the values of the parameters before this place leave undecided
abbrev pub invariant-loop-i : goal.invariant-loop-i
invariant-loop-i l = record {
  count : l.count ≡ length (constrained_params l.self.model);
  whole : breaks_one l.self.model (undecided_of l.self.model l.cells (take l.i (constrained_params l.self.model))) l.cells ≡ false;
}
