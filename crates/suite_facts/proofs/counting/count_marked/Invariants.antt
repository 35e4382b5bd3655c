use Rattle.std.proofs.Common.{◌≡◌, ◌≤◌, drop, length, take}
use Rattle.std.specs.List.{filter}
use Rattle.suite_facts.proofs.counting.count_marked.Given as goal

abbrev pub invariant-loop-i : goal.invariant-loop-i
invariant-loop-i l = (l.marked ≤ l.i) × (l.marked ≡ length (filter (λ mark. mark) (take l.i (drop l.from l.marks))))
