use Rattle.std.proofs.Common.{◌≡◌, ◌≤◌, length, map}
use Rattle.std.specs.List.{filter, range_with_len}
use Rattle.uncovered_table.specs.Digits.{digit_of, is_own, own_values}
use Rattle.uncovered_table.proofs.part.SlicePart.digits_of.Given as goal

abbrev pub invariant-loop-v : goal.invariant-loop-v
invariant-loop-v l = record {
  digits : l.digits.items ≡ map (digit_of (own_values l.self.model l.self.slice l.p)) (range_with_len 0 l.v);
  next : l.next ≡ length (filter (is_own l.self.model l.self.slice l.p) (range_with_len 0 l.v));
  few : l.next ≤ l.v;
}
