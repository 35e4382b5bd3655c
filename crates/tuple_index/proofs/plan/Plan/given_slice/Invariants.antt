use Rattle.std.proofs.Common.{◌≡◌, drop}
use Rattle.tuple_index.specs.Places.{slice_given}
use Rattle.tuple_index.proofs.plan.Plan.given_slice.Given as goal

abbrev pub invariant-loop-i : goal.invariant-loop-i
invariant-loop-i l = slice_given l.self (drop l.i l.members) (drop l.i l.values) ≡ slice_given l.self l.members l.values
