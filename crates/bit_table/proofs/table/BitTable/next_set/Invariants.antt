use Rattle.std.proofs.Common.{ℕ, ◌-◌, ◌^◌, ◌<◌, ◌≤◌, length, get_or}
use Rattle.bit_table.specs.Marks.{NoneSet}
use Rattle.bit_table.proofs.table.BitTable.next_set.Given as goal

abbrev pub invariant-loop-place : goal.invariant-loop-place
invariant-loop-place l =
    (l.from ≤ l.place) × NoneSet l.self l.from l.place × ((i : ℕ) → i < length l.words → get_or l.words i 0 < 2 ^ 64)

abbrev pub decreases-loop-place : goal.decreases-loop-place
decreases-loop-place l = l.end - l.place
