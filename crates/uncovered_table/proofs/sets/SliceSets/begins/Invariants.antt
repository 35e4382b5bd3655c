use Rattle.std.proofs.Common.{◌≡◌, ◌*◌, ◌≤◌}
use Rattle.uncovered_table.specs.Masks.{AreBegins, begin_at}
use Rattle.uncovered_table.specs.Pairs.{digit_count}
use Rattle.uncovered_table.proofs.sets.SliceSets.begins.Given as goal

-- the begins so far
abbrev pub invariant-loop-p : goal.invariant-loop-p
invariant-loop-p l = record {
  are : AreBegins (digit_count l.self.model l.self.slice) l.p l.begins.items;
  last : l.begin ≡ begin_at (digit_count l.self.model l.self.slice) l.p;
  few : l.begin ≤ 4095 * l.p;
}
