use Rattle.std.proofs.Common.{◌≡◌, false, take}
use Rattle.shorter_suites.specs.believed.Shrinking.{is_contained}
use Rattle.suite_shrink.proofs.seeds.is_contained.Given as goal

-- no row before this one contains it
abbrev pub invariant-loop-i : goal.invariant-loop-i
invariant-loop-i l = is_contained (take l.i l.rows) l.part ≡ false
