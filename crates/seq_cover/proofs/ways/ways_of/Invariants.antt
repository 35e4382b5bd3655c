use Rattle.std.proofs.Common.{◌≤◌, drop, length}
use Rattle.seq_cover.specs.Sets.{AreWays}
use Rattle.seq_cover.proofs.ways.ways_of.Given as goal

abbrev pub invariant-loop-at : goal.invariant-loop-at
invariant-loop-at l = (l.at ≤ length l.pairs) × AreWays l.ways (drop l.at l.pairs)

abbrev pub decreases-loop-at : goal.decreases-loop-at
decreases-loop-at l = l.at
