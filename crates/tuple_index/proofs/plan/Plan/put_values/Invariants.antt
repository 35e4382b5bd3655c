use Rattle.tuple_index.specs.Places.{values_in}
use Rattle.tuple_index.proofs.UnrankLemmas.{PutFrom}
use Rattle.tuple_index.proofs.plan.Plan.put_values.Given as goal

abbrev pub invariant-loop-i : goal.invariant-loop-i
invariant-loop-i l = PutFrom (values_in l.self l.slice) l.members l.into l.i l.rest l.place
