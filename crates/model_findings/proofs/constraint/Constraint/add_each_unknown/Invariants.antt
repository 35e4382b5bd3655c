use Rattle.std.proofs.Common.{◌≡◌, ◌++◌, All, length, map, take}
use Rattle.model_findings.specs.Findings.{IsExplained, fact_of}
use Rattle.model_findings.specs.believed.Findings.{unknown_facts, told_from}
use Rattle.model_findings.proofs.constraint.Constraint.add_each_unknown.Given as goal

-- what is so of the terms before this one is told
abbrev pub invariant-loop-i : goal.invariant-loop-i
invariant-loop-i l =
    (length l.room ≡ length l.self.model.now.params) × All (IsExplained l.self.model.now) l.list
    × (map fact_of l.list ≡ map fact_of l.initial.list ++ told_from (unknown_facts l.self.model.now l.self.number) 0 (take l.i (map (λ t. t.now) l.terms)))
