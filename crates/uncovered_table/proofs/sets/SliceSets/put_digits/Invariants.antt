use Rattle.uncovered_table.specs.Digits.{cell_digit, own_values}
use Rattle.uncovered_table.proofs.PreparedLemmas.{PutTo}
use Rattle.uncovered_table.proofs.sets.SliceSets.put_digits.Given as goal

-- the digits so far
abbrev pub invariant-loop-p : goal.invariant-loop-p
invariant-loop-p l = PutTo (cell_digit (own_values l.self.model l.self.slice) l.cells) l.fn.into l.into l.p
