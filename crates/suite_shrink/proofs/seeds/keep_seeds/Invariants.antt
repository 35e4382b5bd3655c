use Rattle.std.proofs.Common.{All, take}
use Rattle.suite_shrink.specs.Coverage.{Stays}
use Rattle.suite_shrink.proofs.seeds.keep_seeds.Given as goal

-- the seed rows before this one stay
abbrev pub invariant-loop-i : goal.invariant-loop-i
invariant-loop-i l = All (Stays l.given l.rows) (take l.i l.seeds)
