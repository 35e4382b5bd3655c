use Rattle.std.proofs.Common.{◌≡◌, drop}
use Rattle.tuple_index.specs.Places.{rises_from}
use Rattle.tuple_index.proofs.values.is_rising.Given as goal

-- whether what is left rises tells whether all do
abbrev pub invariant-loop-n : goal.invariant-loop-n
invariant-loop-n l = rises_from l.least l.count (drop l.n-index l.numbers) ≡ rises_from 0 l.count l.numbers
