use Rattle.std.proofs.Common.{◌≤◌, [], ◌∷◌}
use Rattle.shared_marks.specs.Adding.{Marks}
use Rattle.shared_marks.specs.Served.{base_of, served_between}
use Rattle.shared_marks.proofs.served.mark_sets.Given as goal

abbrev pub invariant-loop-set : goal.invariant-loop-set
invariant-loop-set l =
    (base_of l.model l.from ≤ base_of l.model l.set) × Marks (served_between l.model (l.cells ∷ []) (base_of l.model l.from) (base_of l.model l.set)) l.fn.seat l.seat
