use Rattle.std.proofs.Common.{◌≡◌, ◌-◌, ◌≤◌, drop, take}
use Rattle.std.specs.List.{count_by}
use Rattle.shared_marks.proofs.bits.Bits.count_marked.Given as goal

abbrev pub invariant-loop-place : goal.invariant-loop-place
invariant-loop-place l =
    (l.from ≤ l.place) × (l.place ≤ l.end) × (l.marked ≡ count_by (λ mark. mark) (take (l.place - l.from) (drop l.from l.self)))

abbrev pub decreases-loop-place : goal.decreases-loop-place
decreases-loop-place l = l.end - l.place
