use Rattle.suspect_tuples.proofs.CountingSteps.{CountedSoFar}
use Rattle.suspect_tuples.proofs.counting.counted_rows.Given as goal

abbrev pub invariant-loop-at : goal.invariant-loop-at
invariant-loop-at l = CountedSoFar l.rows l.failed l.at l.counted
