use Rattle.std.proofs.Common.{◌<◌, ℕ}
use Rattle.uncovered_table.specs.Digits.{HasAllValues}
use Rattle.uncovered_table.proofs.part.SlicePart.is_plain.Given as goal

-- the parameters so far
abbrev pub invariant-loop-p : goal.invariant-loop-p
invariant-loop-p l = (q : ℕ) → q < l.p → HasAllValues l.self.model l.self.slice q
