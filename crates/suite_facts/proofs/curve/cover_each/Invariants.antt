use Rattle.std.proofs.Common.{◌≡◌, ◌≤◌, ◌<◌, ℕ, length, map, take, get_or}
use Rattle.row_text.specs.RowFiles.{suite_seen}
use Rattle.suite_facts.specs.believed.Coverages.{point_of}
use Rattle.suite_facts.specs.Marked.{HoldsCovered}
use Rattle.suite_facts.proofs.curve.cover_each.Given as goal

-- the numbers before this one
abbrev pub invariant-loop-number : goal.invariant-loop-number
invariant-loop-number l = record {
  holds : HoldsCovered l.model (suite_seen l.file) l.from l.table.table l.seat;
  next : (k : ℕ) → l.number-index ≤ k → k < length l.numbers → l.from ≤ get_or l.numbers k 0;
  counted : l.points.items ≡ map (point_of l.model (suite_seen l.file)) (take l.number-index l.numbers);
}
