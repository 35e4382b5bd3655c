use Rattle.std.proofs.Common.{◌≡◌, ◌++◌, All, length, map, take}
use Rattle.model_findings.specs.Findings.{IsExplained, fact_of}
use Rattle.model_findings.specs.believed.Findings.{element_facts, told_from}
use Rattle.model_findings.proofs.constraint.Constraint.add_elements.Given as goal

-- the elements before this one are told
abbrev pub invariant-loop-i : goal.invariant-loop-i
invariant-loop-i l =
    (length l.room ≡ length l.self.model.now.params) × All (IsExplained l.self.model.now) l.list
    × (map fact_of l.list ≡ map fact_of l.initial.list ++ told_from (element_facts l.self.model.now l.self.number l.place l.p) 0 (take l.i l.literals))
