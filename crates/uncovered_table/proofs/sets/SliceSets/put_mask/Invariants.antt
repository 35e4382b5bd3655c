use Rattle.std.proofs.Common.{◌≡◌, length, take}
use Rattle.uncovered_table.specs.Digits.{cell_digit, own_values}
use Rattle.uncovered_table.specs.Masks.{IsMask, restricted}
use Rattle.uncovered_table.specs.Pairs.{digit_count}
use Rattle.uncovered_table.specs.Words.{bit_in}
use Rattle.uncovered_table.proofs.sets.SliceSets.put_mask.Given as goal

-- the mask so far
abbrev pub invariant-loop-k : goal.invariant-loop-k
invariant-loop-k l = record {
  long : length l.mask ≡ length l.fn.mask;
  is : IsMask (digit_count l.self.model l.self.slice) (restricted (take l.k l.params) (cell_digit (own_values l.self.model l.self.slice) l.cells))
      (length l.self.model.params) (bit_in l.mask);
}
