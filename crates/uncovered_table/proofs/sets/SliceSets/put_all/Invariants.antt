use Rattle.std.proofs.Common.{◌≡◌, length, take}
use Rattle.uncovered_table.specs.Masks.{AreAll}
use Rattle.uncovered_table.specs.Pairs.{digit_count}
use Rattle.uncovered_table.specs.Words.{bit_in}
use Rattle.uncovered_table.proofs.sets.SliceSets.put_all.Given as goal

-- the bits so far
abbrev pub invariant-loop-k : goal.invariant-loop-k
invariant-loop-k l = record {
  long : length l.mask ≡ length l.fn.mask;
  all : AreAll (digit_count l.self.model l.self.slice) (take l.k l.params) (bit_in l.mask);
}
