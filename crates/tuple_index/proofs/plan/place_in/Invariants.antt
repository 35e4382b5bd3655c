use Rattle.std.proofs.Common.{◌≡◌, ◌+◌, drop}
use Rattle.tuple_index.specs.Places.{place_of}
use Rattle.tuple_index.proofs.plan.place_in.Given as goal

abbrev pub invariant-loop-i : goal.invariant-loop-i
invariant-loop-i l = l.i + place_of (drop l.i l.values) l.v ≡ place_of l.values l.v
