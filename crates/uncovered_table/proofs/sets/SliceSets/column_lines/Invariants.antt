use Rattle.std.proofs.Common.{◌≡◌, ◌*◌, ◌≤◌, length, take}
use Rattle.uncovered_table.specs.Prepared.{AreLines}
use Rattle.uncovered_table.proofs.sets.SliceSets.column_lines.Given as goal

-- the sets so far and their lines
abbrev pub invariant-loop-set : goal.invariant-loop-set
invariant-loop-set l = record {
  sets : l.sets.items ≡ take l.set-index l.in_play;
  lines : AreLines l.self.model l.self.slice l.column (take l.set-index l.in_play) l.lines.items l.parts.items;
  few : length l.parts.items ≤ 256 * l.set-index;
}
