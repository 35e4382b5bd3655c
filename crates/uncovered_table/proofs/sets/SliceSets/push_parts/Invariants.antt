use Rattle.uncovered_table.proofs.PreparedLemmas.{Pushing}
use Rattle.uncovered_table.proofs.sets.SliceSets.push_parts.Given as goal

abbrev pub decreases-loop-left : goal.decreases-loop-left
decreases-loop-left l = l.left

-- the parts of the last members
abbrev pub invariant-loop-left : goal.invariant-loop-left
invariant-loop-left l = Pushing l.self.model l.self.slice l.column l.members l.fn.parts.items l.parts.items l.left l.weight l.step
