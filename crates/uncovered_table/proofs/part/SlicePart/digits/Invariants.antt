use Rattle.std.proofs.Common.{◌≡◌, map}
use Rattle.std.specs.List.{range_with_len}
use Rattle.uncovered_table.specs.Kept.{digits_of}
use Rattle.uncovered_table.proofs.part.SlicePart.digits.Given as goal

abbrev pub invariant-loop-p : goal.invariant-loop-p
invariant-loop-p l = map (λ list. list.items) l.lists.items ≡ map (digits_of l.self.model l.self.slice) (range_with_len 0 l.p)
