use Rattle.std.proofs.Common.{take}
use Rattle.ipog_grow.specs.UnfilledRows.{HasUnfilled}
use Rattle.ipog_grow.proofs.unfilled.UnfilledRows.among.Given as goal

-- the unfilled of the rows so far
abbrev pub invariant-loop-i : goal.invariant-loop-i
invariant-loop-i l = HasUnfilled l.columns l.column l.count (take l.i l.rows) l.unfilled
