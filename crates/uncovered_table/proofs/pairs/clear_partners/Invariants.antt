use Rattle.std.proofs.Common.{ℕ, false, get_or, ◌≡◌, drop, length, take}
use Rattle.uncovered_table.specs.Bits.{all_cleared}
use Rattle.uncovered_table.specs.Digits.{cell_digit, own_values, with_digit}
use Rattle.uncovered_table.specs.Masks.{IsCleared, restricted}
use Rattle.uncovered_table.specs.Pairs.{digit_count}
use Rattle.uncovered_table.specs.Places.{slice_places}
use Rattle.uncovered_table.proofs.pairs.clear_partners.Given as goal

-- the bits of the sets that are left give the bits of all, and the block lacks those of the partners so far
abbrev pub invariant-loop-k : goal.invariant-loop-k
invariant-loop-k l = record {
  left : all_cleared l.sets.model l.sets.slice (with_digit (cell_digit (own_values l.sets.model l.sets.slice) l.cells) l.column l.digit) l.bits
      (drop l.k l.demanded)
      ≡ all_cleared l.sets.model l.sets.slice (with_digit (cell_digit (own_values l.sets.model l.sets.slice) l.cells) l.column l.digit) l.fn.bits l.demanded;
  long : length l.bits ≡ length (slice_places l.sets.model l.sets.slice);
  gone : (i : ℕ) → get_or l.fn.bits i false ≡ false → get_or l.bits i false ≡ false;
  block : IsCleared (digit_count l.sets.model l.sets.slice) (restricted (take l.k l.partners) (cell_digit (own_values l.sets.model l.sets.slice) l.cells))
      l.fn.block.items l.block.items;
}
