use Rattle.std.proofs.Common.{length, ◌-◌, ◌≤◌}
use Rattle.std.specs.Io.KnownBytes.{Consumes}
use Rattle.outside_io.proofs.transfer.read_whole.Given as goal

-- what was read is what the file gave so far
abbrev pub invariant-loop-count : goal.invariant-loop-count
invariant-loop-count g l =
    (length l.into.items ≤ l.most)
    × Consumes (g.F.Read.remaining l.initial.file) (g.F.Read.remaining l.file) l.into.items

-- each turn reads one byte at least
abbrev pub decreases-loop-count : goal.decreases-loop-count
decreases-loop-count g l = l.most - length l.into.items
