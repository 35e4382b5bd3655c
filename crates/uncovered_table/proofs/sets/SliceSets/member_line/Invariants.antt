use Rattle.uncovered_table.specs.Digits.{cell_digit, own_values}
use Rattle.uncovered_table.proofs.PreparedLemmas.{Numbering}
use Rattle.uncovered_table.proofs.sets.SliceSets.member_line.Given as goal

abbrev pub decreases-loop-left : goal.decreases-loop-left
decreases-loop-left l = l.left

-- the number of the last members
abbrev pub invariant-loop-left : goal.invariant-loop-left
invariant-loop-left l =
    Numbering l.self.model l.self.slice l.column l.members (cell_digit (own_values l.self.model l.self.slice) l.cells) l.left l.weight l.step l.number
