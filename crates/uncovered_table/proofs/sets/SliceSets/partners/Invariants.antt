use Rattle.uncovered_table.specs.Bits.{sets_in_play}
use Rattle.uncovered_table.proofs.PartnerLemmas.{PartnersTo}
use Rattle.uncovered_table.proofs.sets.SliceSets.partners.Given as goal

-- the partners so far
abbrev pub invariant-loop-k : goal.invariant-loop-k
invariant-loop-k l = PartnersTo l.self.model l.self.slice l.column l.k l.next (sets_in_play l.self.model l.self.slice l.column) l.partners.items
