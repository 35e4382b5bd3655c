use Rattle.std.proofs.Common.{◌≡◌, length}
use Rattle.uncovered_table.proofs.ReadyLemmas.{Keeping}
use Rattle.uncovered_table.proofs.prepared.keep_open.Given as goal

-- the sets so far that are kept stand in front
abbrev pub invariant-loop-k : goal.invariant-loop-k
invariant-loop-k l = record {
  column : l.made.column ≡ l.fn.made.column;
  long : length l.made.sets.items ≡ l.count;
  keeping : Keeping l.sets.model l.sets.slice l.bits l.fn.made.column l.kept l.k l.made.sets.items l.made.lines.items l.made.parts.items;
}
