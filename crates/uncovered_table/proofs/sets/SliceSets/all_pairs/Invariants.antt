use Rattle.std.proofs.Common.{length, replicate, true}
use Rattle.uncovered_table.specs.Pairs.{AreKept}
use Rattle.uncovered_table.specs.Places.{slice_places}
use Rattle.uncovered_table.proofs.sets.SliceSets.all_pairs.Given as goal

-- the columns so far
abbrev pub invariant-loop-p : goal.invariant-loop-p
invariant-loop-p l = AreKept l.self.model l.self.slice (replicate (length (slice_places l.self.model l.self.slice)) true) l.p l.columns.items
