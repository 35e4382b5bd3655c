use Rattle.ipog_grow.proofs.Removing.{Removes}
use Rattle.ipog_grow.proofs.distinct.remove_repeats.Given as goal

abbrev pub invariant-loop-i : goal.invariant-loop-i
invariant-loop-i l = Removes l.initial.rows l.rows l.known l.i l.count
