use Rattle.std.proofs.Common.{◌≡◌}
use Rattle.uncovered_table.specs.Bits.{first_bit}
use Rattle.uncovered_table.specs.Kept.{AreBegins}
use Rattle.uncovered_table.proofs.part.SlicePart.bit_begins.Given as goal

abbrev pub invariant-loop-set : goal.invariant-loop-set
invariant-loop-set l = record {
  begins : AreBegins l.self.model l.self.slice l.set l.begins.items;
  begin : l.begin ≡ first_bit l.self.model l.self.slice l.set;
}
