use Rattle.std.proofs.Common.{◌≡◌, ◌-◌, ◌%◌, ◌<◌, ◌≤◌}
use Rattle.suite_shrink.specs.Within.{AreWithin}
use Rattle.suite_shrink.proofs.comparing.are_within.Given as goal

-- the places before this one
abbrev pub invariant-loop-from : goal.invariant-loop-from
invariant-loop-from l = (l.from ≤ l.end) × (l.from < l.end → l.from % 64 ≡ 0) × AreWithin l.inner l.outer 0 l.from

abbrev pub decreases-loop-from : goal.decreases-loop-from
decreases-loop-from l = l.end - l.from
