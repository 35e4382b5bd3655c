use Rattle.std.proofs.Common.{◌≡◌, false, take}
use Rattle.std.specs.Prelude.{◌&&◌}
use Rattle.std.specs.List.{list_any}
use Rattle.suspect_tuples.specs.RowBits.{has_at}
use Rattle.suspect_tuples.proofs.row_bits.has_among.Given as goal

abbrev pub invariant-loop-number : goal.invariant-loop-number
invariant-loop-number l = list_any (λ n. has_at l.rows l.first n && has_at l.rows l.second n) (take l.number-index l.numbers) ≡ false
