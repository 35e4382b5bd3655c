use Rattle.std.proofs.Common.{◌≡◌, length}
use Rattle.feasibility.specs.Live.{AreMarks}
use Rattle.feasibility.proofs.tree.SearchTree.listed_sets.Given as goal

abbrev pub invariant-loop-q : goal.invariant-loop-q
invariant-loop-q l = (l.count ≡ length l.self.model.params) × AreMarks l.self.model l.self.values l.q l.sets.items
