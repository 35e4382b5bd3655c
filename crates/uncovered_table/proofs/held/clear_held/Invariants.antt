use Rattle.std.proofs.Common.{◌≡◌, drop, length}
use Rattle.uncovered_table.specs.Bits.{all_cleared}
use Rattle.uncovered_table.specs.Digits.{cell_digit, own_values, with_digit}
use Rattle.uncovered_table.specs.Places.{slice_places}
use Rattle.uncovered_table.proofs.held.clear_held.Given as goal

abbrev pub invariant-loop-k : goal.invariant-loop-k
invariant-loop-k l = record {
  left : all_cleared l.sets.model l.sets.slice (with_digit (cell_digit (own_values l.sets.model l.sets.slice) l.cells) l.column l.digit) l.bits
      (drop l.k l.walked)
      ≡ all_cleared l.sets.model l.sets.slice (with_digit (cell_digit (own_values l.sets.model l.sets.slice) l.cells) l.column l.digit) l.fn.bits l.walked;
  long : length l.bits ≡ length (slice_places l.sets.model l.sets.slice);
}
