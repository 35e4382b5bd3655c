use Rattle.std.proofs.Common.{◌≡◌, ◌*◌}
use Rattle.uncovered_table.specs.Words.{common, sum_to}
use Rattle.uncovered_table.proofs.words.count_common.Given as goal

-- the common bits of the words so far
abbrev pub invariant-loop-i : goal.invariant-loop-i
invariant-loop-i l = l.count ≡ sum_to (common l.words l.mask) (64 * l.i)
