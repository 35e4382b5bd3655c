use Rattle.shared_marks.proofs.OpenLemmas.{IsFound}
use Rattle.shared_marks.proofs.open_sets.OpenSets.find.Given as goal

abbrev pub invariant-loop-set : goal.invariant-loop-set
invariant-loop-set l = IsFound l.plan l.lines.items l.set l.fn.seat l.seat
