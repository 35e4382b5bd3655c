use Rattle.uncovered_table.specs.Prepared.{digit_in}
use Rattle.uncovered_table.proofs.PreparedLemmas.{Summing}
use Rattle.uncovered_table.proofs.prepared.sum_of_all.Given as goal

-- the parts that are left decide
abbrev pub invariant-loop-part : goal.invariant-loop-part
invariant-loop-part l = Summing (digit_in l.digits) l.parts l.part-index l.number
