use Rattle.std.proofs.Common.{◌≡◌, ◌-◌, ◌+◌, ◌*◌, length, drop, get_or}
use Rattle.definitions.specs.believed.Search.{constrained_params, visit}
use Rattle.feasibility.specs.Path.{reached}
use Rattle.feasibility.proofs.Visits.{Going}
use Rattle.feasibility.proofs.tree.SearchTree.+visits.Given as goal

abbrev pub decreases-visit : goal.decreases-visit
decreases-visit l = 2 * (length (constrained_params l.self.now.model) - l.i) + 1

abbrev pub decreases-visit_value : goal.decreases-visit_value
decreases-visit_value l = 2 * (length (constrained_params l.self.now.model) - l.i)

-- the values from here on decide what the search through all of them finds
abbrev pub invariant-visit-loop-v : goal.invariant-visit-loop-v
invariant-visit-loop-v l = record {
  cells : l.cells ≡ l.fn.cells;
  sets : l.sets ≡ l.fn.sets;
  going : Going (visit l.self.model l.self.values (drop (l.i + 1) (constrained_params l.self.model)))
      (reached l.self.model l.self.values (drop (l.i + 1) (constrained_params l.self.model)))
      l.fn.cells (get_or (constrained_params l.self.model) l.i 0) l.values (drop l.v-index l.values) l.initial.left l.left;
}
