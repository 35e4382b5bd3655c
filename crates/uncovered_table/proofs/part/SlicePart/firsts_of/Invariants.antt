use Rattle.std.proofs.Common.{◌≡◌, map, take}
use Rattle.uncovered_table.specs.Bits.{first_bit}
use Rattle.uncovered_table.proofs.part.SlicePart.firsts_of.Given as goal

abbrev pub invariant-loop-set : goal.invariant-loop-set
invariant-loop-set l = l.firsts.items ≡ map (first_bit l.self.model l.self.slice) (take l.set-index l.sets)
