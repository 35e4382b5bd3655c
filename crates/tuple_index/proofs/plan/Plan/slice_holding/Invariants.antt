use Rattle.tuple_index.proofs.UnrankLemmas.{HeldFrom}
use Rattle.tuple_index.proofs.plan.Plan.slice_holding.Given as goal

abbrev pub invariant-loop-q : goal.invariant-loop-q
invariant-loop-q l = HeldFrom l.self l.members l.q-index l.place l.rank
