use Rattle.std.proofs.Common.{◌≡◌, ◌≤◌, sum_by, take}
use Rattle.uncovered_table.specs.Bits.{held_count}
use Rattle.uncovered_table.specs.Digits.{cell_digit, own_values, with_digit}
use Rattle.uncovered_table.proofs.held.count_held.Given as goal

abbrev pub invariant-loop-k : goal.invariant-loop-k
invariant-loop-k l = record {
  counted : l.count ≡ sum_by (held_count l.sets.model l.sets.slice l.bits
      (with_digit (cell_digit (own_values l.sets.model l.sets.slice) l.cells) l.column l.digit)) (take l.k l.walked);
  few : l.count ≤ l.k;
}
