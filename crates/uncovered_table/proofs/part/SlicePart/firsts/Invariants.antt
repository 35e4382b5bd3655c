use Rattle.std.proofs.Common.{◌≡◌, map}
use Rattle.std.specs.List.{range_with_len}
use Rattle.uncovered_table.specs.Kept.{firsts_of}
use Rattle.uncovered_table.proofs.part.SlicePart.firsts.Given as goal

abbrev pub invariant-loop-p : goal.invariant-loop-p
invariant-loop-p l = map (λ list. list.items) l.lists.items ≡ map (firsts_of l.self.model l.self.slice) (range_with_len 0 l.p)
