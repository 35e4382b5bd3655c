use Rattle.std.proofs.Common.{◌≡◌, ◌++◌, map, take, drop}
use Rattle.row_text.specs.Turns.{cleared}
use Rattle.row_text.proofs.next_names.NextNames.clear.Given as goal

abbrev pub invariant-loop-next : goal.invariant-loop-next
invariant-loop-next l = map (λ next. next.items) l.next-items ≡ cleared (take l.next-index l.fn.self) ++ drop l.next-index l.fn.self
